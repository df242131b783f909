use Rattle.std.proofs.lemmas.Result.{IfOk-weaker}
use Rattle.aes3_cell.proofs.Writing.{wrote-is}
use Rattle.aes3_lock.specs.Following.{report_in}
use Rattle.aes3_engine.proofs.FillSteps.{adds-is, progress-next}
use Rattle.aes3_engine.proofs.filling.FilledBlocksReporter.tell.Goals as goal

pub returns-clause-next : goal.returns-clause-next
returns-clause-next g c =
    IfOk-weaker c.put.result _ _ (λ u p r n h.
    progress-next c.args.self.now.fill c.put.new.self.fill c.args.self.now.progress c.put.new.self.progress r
    (report_in c.args.lock.now c.args.ending) c.put.ensures.fill p h) c.put.ensures.progress

pub returns-clause-wrote : goal.returns-clause-wrote
returns-clause-wrote g c = λ r n h.
    wrote-is (adds-is c.args.self.now.format c.args.self.now.fill c.args.self.now.progress r
    (report_in c.args.lock.now c.args.ending) h) c.put.ensures.wrote
