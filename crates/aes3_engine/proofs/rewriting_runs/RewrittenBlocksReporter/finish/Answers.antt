use Rattle.aes3_cell.specs.Written.{ending}
use Rattle.aes3_cell.proofs.Writing.{wrote-is}
use Rattle.aes3_lock_runs.specs.BlockRuns.{report_bytes}
use Rattle.aes3_lock_runs.proofs.ReportLemmas.{ends-is}
use Rattle.aes3_engine.specs.Rewriting.{rewritten_block}
use Rattle.aes3_engine.proofs.rewriting_runs.RewrittenBlocksReporter.finish.Goals as goal

pub returns : goal.returns
returns g c = λ r h.
    let k = c.args.self.now in
    wrote-is (ends-is (report_bytes (rewritten_block k.output k.change)) (ending k.output) r) c.put_ending.ensures
