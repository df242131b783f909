use Rattle.std.proofs.lemmas.Result.{err_from_is_err_and}
use Rattle.aes3_lock_runs.specs.BlockRuns.{report_bytes}
use Rattle.aes3_lock_runs.proofs.ReportRuns.{told-err, told-ok}
use Rattle.aes3_lock_runs.proofs.listeners.run_blocks.Goals as goal

pub returns : goal.returns
returns g c =
    told-ok c.args.input (report_bytes (g.W.BlockWriter.writes c.args.writer)) (g.W.BlockWriter.ends c.args.writer)
    (λ k r. Unit {0})
    c.in_ok-counts.ensures

pub returns-in_err-counts : goal.returns-in_err-counts
returns-in_err-counts g c =
    let error = err_from_is_err_and c.from_residual.result c.from_residual.ensures.1 in
    rw (error.1, error.2) (told-err c.args.input (report_bytes (g.W.BlockWriter.writes c.args.writer))
    (g.W.BlockWriter.ends c.args.writer) (λ k r. Unit {0}) c.in_err-counts.ensures)
