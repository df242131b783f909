use Rattle.std.proofs.Common.{rules}
use Rattle.aes3_cell.proofs.Writing.{wrote-is}
use Rattle.aes3_lock.specs.Following.{report_in}
use Rattle.aes3_lock_runs.specs.BlockRuns.{report_bytes}
use Rattle.aes3_lock_runs.proofs.ReportLemmas.{adds-is}
use Rattle.aes3_lock_runs.proofs.listeners.BlockReporterReporter.tell.Goals as goal

pub returns-in-Whole-clause-wrote : goal.returns-in-Whole-clause-wrote
returns-in-Whole-clause-wrote g c = λ r n h.
    let k = c.args.self.now.writer in
    wrote-is (adds-is (report_bytes (g.W.BlockWriter.writes k)) (g.W.BlockWriter.ends k) c.args.blocks r
    (report_in c.args.lock.now c.args.ending) n) (search (rules, c.put.ensures))

pub returns-in-Marked-clause-wrote : goal.returns-in-Marked-clause-wrote
returns-in-Marked-clause-wrote g c = λ r n h.
    let k = c.args.self.now.writer in
    wrote-is (adds-is (report_bytes (g.W.BlockWriter.writes k)) (g.W.BlockWriter.ends k) c.args.blocks r
    (report_in c.args.lock.now c.args.ending) n) (search rules)

pub returns-in-Fault-clause-wrote : goal.returns-in-Fault-clause-wrote
returns-in-Fault-clause-wrote g c = λ r n h.
    let k = c.args.self.now.writer in
    wrote-is (adds-is (report_bytes (g.W.BlockWriter.writes k)) (g.W.BlockWriter.ends k) c.args.blocks r
    (report_in c.args.lock.now c.args.ending) n) (search rules)

pub returns-in-Unfinished-clause-wrote : goal.returns-in-Unfinished-clause-wrote
returns-in-Unfinished-clause-wrote g c = λ r n h.
    let k = c.args.self.now.writer in
    wrote-is (adds-is (report_bytes (g.W.BlockWriter.writes k)) (g.W.BlockWriter.ends k) c.args.blocks r
    (report_in c.args.lock.now c.args.ending) n) (search rules)
