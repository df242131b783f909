use Rattle.std.proofs.Common.{inl, refl}
use Rattle.std.proofs.lemmas.Result.{err_from_is_err_and}
use Rattle.aes3_cli_arguments.proofs.command_job.rewrite.Goals as goal

pub flag-exact-requires : goal.flag-exact-requires
flag-exact-requires c = c.requires.taken.exact

pub returns-clause-job : goal.returns-clause-job
returns-clause-job c =
    (c.requires.input, c.requires.output, (refl, c.in_ok-change.ensures.change, c.flag-exact.ensures))

pub returns-in_err-change-clause-fault : goal.returns-in_err-change-clause-fault
returns-in_err-change-clause-fault c =
    let p = err_from_is_err_and c.from_residual.result c.from_residual.ensures.1 in
    rw (p.1, p.2) (inl (refl, c.in_err-change.ensures.fault))
