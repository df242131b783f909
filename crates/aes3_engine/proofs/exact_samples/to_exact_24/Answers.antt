use Rattle.std.proofs.lemmas.Result.{err_from_is_err_and}
use Rattle.aes3_engine.proofs.ExactSamples.{wide-err, wide-ok}
use Rattle.aes3_engine.proofs.exact_samples.to_exact_24.Goals as goal

pub returns : goal.returns
returns g c = wide-ok c.args.input c.args.format c.requires.wide c.in_ok-counts.ensures.run

pub returns-in_err-counts : goal.returns-in_err-counts
returns-in_err-counts g c =
    let error = err_from_is_err_and c.from_residual.result c.from_residual.ensures.1 in
    rw (error.1, error.2) (wide-err c.args.input c.args.format c.requires.wide c.in_err-counts.ensures.run)
