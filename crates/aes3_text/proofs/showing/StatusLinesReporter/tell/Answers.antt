use Rattle.std.proofs.Common.{ap₂}
use Rattle.std.proofs.lemmas.Result.{IfOk-weaker}
use Rattle.aes3_lock.specs.Following.{report_in}
use Rattle.aes3_lock.specs.Reports.{wholes}
use Rattle.aes3_cell.proofs.Writing.{ok-always, wrote-is}
use Rattle.aes3_text.specs.Runs.{showing}
use Rattle.aes3_text.proofs.StatusChanges.{adds-is, next-last}
use Rattle.aes3_text.proofs.showing.StatusLinesReporter.tell.Goals as goal

pub returns-clause-unchanged : goal.returns-clause-unchanged
returns-clause-unchanged g c = ok-always c.put.result (ap₂ showing c.put.ensures.changes c.put.ensures.detail)

pub returns-clause-next : goal.returns-clause-next
returns-clause-next g c =
    IfOk-weaker c.put.result _ _ (λ u last r n h.
    next-last r (report_in c.args.lock.now c.args.ending) (last (wholes r) h)) c.put.ensures.last

pub returns-clause-wrote : goal.returns-clause-wrote
returns-clause-wrote g c = λ r n h.
    wrote-is (adds-is c.args.self.now.changes c.args.self.now.detail r (report_in c.args.lock.now c.args.ending))
    (c.put.ensures.wrote (wholes r) h n)
