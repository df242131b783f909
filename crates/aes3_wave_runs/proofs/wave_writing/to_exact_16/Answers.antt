use Rattle.std.proofs.Common.{◌≡◌, rules}
use Rattle.std.proofs.lemmas.Result.{err_from_is_err_and}
use Rattle.aes3_forms_samples.specs.declared.sample_format.SampleFormat.TheVariants.{S16}
use Rattle.aes3_lock_runs.proofs.ReportRuns.{none-told}
use Rattle.aes3_engine.specs.ExactSamples.{first_unfit}
use Rattle.aes3_engine.specs.Filling.{placed}
use Rattle.aes3_wave_runs.proofs.WrittenRuns.{exact-err, exact-ok, quiet-exact}
use Rattle.aes3_wave_runs.proofs.wave_writing.to_exact_16.Goals as goal

pub run_headed-requires-clause-start : goal.run_headed-requires-clause-start
run_headed-requires-clause-start g c = none-told (λ r. c.new.result.refused ≡ first_unfit S16 (placed r)) c.new.ensures

pub run_headed-requires-clause-quiet : goal.run_headed-requires-clause-quiet
run_headed-requires-clause-quiet g c = quiet-exact S16

pub returns : goal.returns
returns g c = exact-ok c.args.input c.args.rate (search rules) c.in_ok-written.ensures

pub returns-in_err-written : goal.returns-in_err-written
returns-in_err-written g c =
    let error = err_from_is_err_and c.from_residual.result c.from_residual.ensures.1 in
    rw (error.1, error.2) (exact-err c.args.input c.args.rate c.in_err-written.ensures)
