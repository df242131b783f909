use Rattle.std.proofs.Common.{◌∙◌}
use Rattle.aes3_cell.specs.Written.{ending}
use Rattle.aes3_cell.proofs.Writing.{ok-always, wrote-is}
use Rattle.aes3_lock.specs.Following.{report_in}
use Rattle.aes3_lock_runs.specs.BlockRuns.{report_bytes}
use Rattle.aes3_lock_runs.proofs.ReportLemmas.{adds-is}
use Rattle.aes3_engine.specs.Rewriting.{rewritten_block}
use Rattle.aes3_engine.proofs.RewritingRuns.{same-bytes}
use Rattle.aes3_engine.proofs.rewriting_runs.RewrittenBlocksReporter.tell.Goals as goal

pub returns-clause-next : goal.returns-clause-next
returns-clause-next g c = ok-always c.put.result (λ r n h. c.put.ensures.met r h)

pub returns-clause-wrote : goal.returns-clause-wrote
returns-clause-wrote g c = λ r n h.
    let k = c.args.self.now in
    let x = report_in c.args.lock.now c.args.ending in
    wrote-is (same-bytes k.output k.change c.args._blocks x
    ∙ adds-is (report_bytes (rewritten_block k.output k.change)) (ending k.output) c.args._blocks r x n)
    c.put.ensures.wrote
