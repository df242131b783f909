use Rattle.std.proofs.lemmas.Result.{err_from_is_err_and}
use Rattle.aes3_engine.proofs.ExactSamples.{exact-err, exact-ok}
use Rattle.aes3_engine.proofs.exact_samples.to_exact_16.Goals as goal

pub run_reports-requires-clause-start : goal.run_reports-requires-clause-start
run_reports-requires-clause-start g c = c.new.ensures

pub returns : goal.returns
returns g c = exact-ok c.args.input c.in_ok-counts.ensures

pub returns-in_err-counts : goal.returns-in_err-counts
returns-in_err-counts g c =
    let error = err_from_is_err_and c.from_residual.result c.from_residual.ensures.1 in
    rw (error.1, error.2) (exact-err c.args.input c.in_err-counts.ensures)
