use Rattle.std.proofs.Common.{[], Ok}
use Rattle.std.proofs.lemmas.Result.{err_from_is_err_and}
use Rattle.aes3_lock.specs.Reports.{decided, reports}
use Rattle.aes3_input.proofs.InputRuns.{run-wrote}
use Rattle.aes3_input.proofs.CellRuns.{cells-run}
use Rattle.aes3_lock_runs.proofs.ReportRuns.{told-err, told-ok}
use Rattle.aes3_text_reports.specs.Lines.{report_lines, told_line}
use Rattle.aes3_text.proofs.RunLines.{check-whole, check-begun}
use Rattle.aes3_text.proofs.checking.check.Goals as goal

pub returns-clause-run : goal.returns-clause-run
returns-clause-run g c =
    let l = c.args.lines in
    cells-run c.args.input (λ d. report_lines l (reports d)) (λ d. report_lines l (decided d)) (check-whole l)
    (check-begun l) (told-ok c.args.input (λ _. told_line l) [] (λ k r. Unit {0}) c.in_ok-counts.ensures)

pub returns-in_err-counts-clause-run : goal.returns-in_err-counts-clause-run
returns-in_err-counts-clause-run g c =
    let l = c.args.lines in
    let error = err_from_is_err_and c.from_residual.result c.from_residual.ensures.1 in
    rw (error.1, error.2) (cells-run c.args.input (λ d. report_lines l (reports d))
    (λ d. report_lines l (decided d)) (check-whole l) (check-begun l)
    (told-err c.args.input (λ _. told_line l) [] (λ k r. Unit {0}) c.in_err-counts.ensures))

pub returns-clause-lines : goal.returns-clause-lines
returns-clause-lines g c = run-wrote (Ok _) (returns-clause-run g c)
