use Rattle.std.proofs.lemmas.Result.{err_from_is_err_and}
use Rattle.aes3_lock.specs.Reports.{wholes}
use Rattle.aes3_input.proofs.InputRuns.{run-err, run-ok}
use Rattle.aes3_text.specs.Runs.{AreLast}
use Rattle.aes3_text.proofs.StatusChanges.{gives-shown}
use Rattle.aes3_text.proofs.showing.show_lines.Goals as goal

pub run_reports-requires-clause-start : goal.run_reports-requires-clause-start
run_reports-requires-clause-start g c = c.new-lines.ensures.begun

pub returns : goal.returns
returns g c =
    run-ok (gives-shown c.args.input (λ k r. AreLast k.first k.second (wholes r)) c.new-lines.ensures.changes
    c.new-lines.ensures.detail) (λ b i h. h.0) c.in_ok-counts.ensures

pub returns-in_err-counts : goal.returns-in_err-counts
returns-in_err-counts g c =
    let error = err_from_is_err_and c.from_residual.result c.from_residual.ensures.1 in
    rw (error.1, error.2) (run-err (gives-shown c.args.input (λ k r. AreLast k.first k.second (wholes r))
    c.new-lines.ensures.changes c.new-lines.ensures.detail) c.in_err-counts.ensures)
