use Rattle.std.proofs.lemmas.Result.{err_from_is_err_and}
use Rattle.aes3_wave_runs.proofs.WrittenRuns.{wide-err, wide-ok}
use Rattle.aes3_wave_runs.proofs.wave_writing.to_exact_24.Goals as goal

pub returns : goal.returns
returns g c =
    wide-ok c.args.input c.args.depth c.args.rate c.requires.wide c.in_ok-written.ensures.run

pub returns-in_err-written : goal.returns-in_err-written
returns-in_err-written g c =
    let error = err_from_is_err_and c.from_residual.result c.from_residual.ensures.1 in
    rw (error.1, error.2)
    (wide-err c.args.input c.args.depth c.args.rate c.requires.wide c.in_err-written.ensures.run)
