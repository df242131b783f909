use Rattle.std.proofs.Common.{inl, inr, refl}
use Rattle.std.proofs.lemmas.Result.{IfErr-weaker, err_from_is_err_and}
use Rattle.aes3_cli_arguments.proofs.command_job.from_pcm.Goals as goal

pub returns-clause-fault : goal.returns-clause-fault
returns-clause-fault c =
    IfErr-weaker c.sampling.result _ _ (λ told inexact. inr (inl (refl, inr inexact))) c.sampling.ensures.fault

pub returns-in_err-change-clause-fault : goal.returns-in_err-change-clause-fault
returns-in_err-change-clause-fault c =
    let p = err_from_is_err_and c.from_residual.result c.from_residual.ensures.1 in
    rw (p.1, p.2) (inr (inl (refl, inl c.in_err-change.ensures.fault)))
