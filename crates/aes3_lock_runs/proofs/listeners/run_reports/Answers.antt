use Rattle.std.proofs.Common.{rules}
use Rattle.std.proofs.lemmas.Result.{err_from_is_err_and}
use Rattle.aes3_input.proofs.InputRuns.{run-err, run-ok}
use Rattle.aes3_lock.specs.Reports.{reports}
use Rattle.aes3_lock_runs.proofs.ReportRuns.{gives-told, none-told}
use Rattle.aes3_lock_runs.proofs.listeners.run_reports.Goals as goal

pub run_cells-requires-clause-start : goal.run_cells-requires-clause-start
run_cells-requires-clause-start g c = none-told (g.R.Reporter.follows c.args.reporter) c.requires.start

pub returns : goal.returns
returns g c =
    run-ok (gives-told c.args.input (g.R.Reporter.writes c.args.reporter)
    (λ k d. g.R.Reporter.follows k.reporter (reports d)) g.R.Reporter.follows) (λ b i h. (search (rules, h.0), h.1))
    c.in_ok-counts.ensures

pub returns-in_err-counts : goal.returns-in_err-counts
returns-in_err-counts g c =
    let error = err_from_is_err_and c.from_residual.result c.from_residual.ensures.1 in
    rw (error.1, error.2) (run-err (gives-told c.args.input (g.R.Reporter.writes c.args.reporter)
    (λ k d. g.R.Reporter.follows k.reporter (reports d)) g.R.Reporter.follows) c.in_err-counts.ensures)
