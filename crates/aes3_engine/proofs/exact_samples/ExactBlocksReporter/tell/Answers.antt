use Rattle.std.proofs.lemmas.Result.{IfOk-weaker}
use Rattle.aes3_cell.proofs.Writing.{wrote-is}
use Rattle.aes3_lock.specs.Following.{report_in}
use Rattle.aes3_engine.proofs.ExactSamples.{adds-is, refused-next}
use Rattle.aes3_engine.proofs.exact_samples.ExactBlocksReporter.tell.Goals as goal

pub returns-clause-next : goal.returns-clause-next
returns-clause-next g c =
    IfOk-weaker c.put.result _ _ (λ u p r n h.
    refused-next c.args.self.now.refused c.put.new.self.refused r (report_in c.args.lock.now c.args.ending) p h)
    c.put.ensures.refused

pub returns-clause-wrote : goal.returns-clause-wrote
returns-clause-wrote g c = λ r n h.
    wrote-is (adds-is c.args.self.now.refused r (report_in c.args.lock.now c.args.ending) h) c.put.ensures.wrote
