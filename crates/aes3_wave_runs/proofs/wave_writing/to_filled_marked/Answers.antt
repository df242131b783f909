use Rattle.std.proofs.Common.{◌∙◌, arith, refl}
use Rattle.std.proofs.lemmas.Result.{err_from_is_err_and}
use Rattle.aes3_engine.proofs.FillRuns.{nothing-mended}
use Rattle.aes3_wave_runs.proofs.WrittenRuns.{mended-err, mended-ok, quiet-mended}
use Rattle.aes3_wave_runs.proofs.wave_writing.to_filled_marked.Goals as goal

pub run_headed-requires-clause-start : goal.run_headed-requires-clause-start
run_headed-requires-clause-start g c =
    let e = c.new-samples.ensures in nothing-mended c.new-samples.result e.progress e.before e.marked

pub run_headed-requires-clause-quiet : goal.run_headed-requires-clause-quiet
run_headed-requires-clause-quiet g c =
    let k = c.new-samples.result.filled in quiet-mended k.format k.fill

pub returns : goal.returns
returns g c =
    mended-ok c.args.input c.args.depth c.args.rate c.args.fill (c.new-samples.ensures.format ∙ c.format_of.ensures)
    c.new-samples.ensures.fill (λ xs a p n. omega (arith, c.frames.ensures xs a p n)) refl c.in_ok-written.ensures

pub returns-in_err-written : goal.returns-in_err-written
returns-in_err-written g c =
    let error = err_from_is_err_and c.from_residual.result c.from_residual.ensures.1 in
    rw (error.1, error.2)
    (mended-err c.args.input c.args.depth c.args.rate c.args.fill (c.new-samples.ensures.format ∙ c.format_of.ensures)
    c.new-samples.ensures.fill c.in_err-written.ensures)
