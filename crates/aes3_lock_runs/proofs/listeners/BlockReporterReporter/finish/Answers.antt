use Rattle.aes3_cell.proofs.Writing.{wrote-is}
use Rattle.aes3_lock_runs.specs.BlockRuns.{report_bytes}
use Rattle.aes3_lock_runs.proofs.ReportLemmas.{ends-is}
use Rattle.aes3_lock_runs.proofs.listeners.BlockReporterReporter.finish.Goals as goal

pub returns : goal.returns
returns g c = λ r h.
    let k = c.args.self.now.writer in
    wrote-is (ends-is (report_bytes (g.W.BlockWriter.writes k)) (g.W.BlockWriter.ends k) r) c.put_end.ensures
