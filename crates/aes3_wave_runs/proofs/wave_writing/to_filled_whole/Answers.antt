use Rattle.std.proofs.Common.{◌≡◌, ◌∙◌, arith}
use Rattle.std.proofs.lemmas.Result.{err_from_is_err_and}
use Rattle.aes3_lock_runs.proofs.ReportRuns.{none-told}
use Rattle.aes3_engine.specs.FillSteps.{progress_of}
use Rattle.aes3_engine.specs.Filling.{placed}
use Rattle.aes3_wave_runs.proofs.WrittenRuns.{filled-err, filled-ok, quiet-filled}
use Rattle.aes3_wave_runs.proofs.wave_writing.to_filled_whole.Goals as goal

pub run_headed-requires-clause-start : goal.run_headed-requires-clause-start
run_headed-requires-clause-start g c =
    let k = c.new.result in none-told (λ r. k.progress ≡ progress_of k.fill (placed r)) c.new.ensures.progress

pub run_headed-requires-clause-quiet : goal.run_headed-requires-clause-quiet
run_headed-requires-clause-quiet g c = quiet-filled c.new.result.format c.new.result.fill

pub returns : goal.returns
returns g c =
    filled-ok c.args.input c.args.depth c.args.rate c.args.fill (c.new.ensures.format ∙ c.format_of.ensures)
    c.new.ensures.fill (λ xs a p n. omega (arith, c.frames.ensures xs a p (omega (arith, n)))) c.in_ok-written.ensures

pub returns-in_err-written : goal.returns-in_err-written
returns-in_err-written g c =
    let error = err_from_is_err_and c.from_residual.result c.from_residual.ensures.1 in
    rw (error.1, error.2)
    (filled-err c.args.input c.args.depth c.args.rate c.args.fill (c.new.ensures.format ∙ c.format_of.ensures)
    c.new.ensures.fill c.in_err-written.ensures)
