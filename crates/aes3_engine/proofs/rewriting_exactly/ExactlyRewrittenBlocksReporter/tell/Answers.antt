use Rattle.std.proofs.Common.{[], ◌∷◌, ◌++◌, ◌∙◌, ap, sym}
use Rattle.std.specs.Option.{is_some}
use Rattle.aes3_cell.proofs.Writing.{ok-always, wrote-is}
use Rattle.aes3_lock.specs.Following.{report_in}
use Rattle.aes3_status.specs.declared.change.Change.{Change}
use Rattle.aes3_engine.specs.Filling.{placed}
use Rattle.aes3_engine.specs.RewritingExactly.{first_refused}
use Rattle.aes3_engine.proofs.RewritingExactly.{adds-is, met-next, refused-next}
use Rattle.aes3_engine.proofs.rewriting_exactly.ExactlyRewrittenBlocksReporter.tell.Goals as goal

pub returns-clause-next : goal.returns-clause-next
returns-clause-next g c =
    let x = report_in c.args.lock.now c.args.ending in
    ok-always c.put.result (λ r n h. (
      met-next c.put.new.self.met r x (c.put.ensures.met (placed r) h.0),
      refused-next c.args.self.now.change r x c.put.ensures.refused h.1
          ∙ ap (λ (k : Change). is_some (first_refused k (placed (r ++ x ∷ [])))) (sym c.put.ensures.change),
    ))

pub returns-clause-wrote : goal.returns-clause-wrote
returns-clause-wrote g c = λ r n h.
    let k = c.args.self.now in
    wrote-is (adds-is k.output k.change r (report_in c.args.lock.now c.args.ending) h.1) c.put.ensures.wrote
