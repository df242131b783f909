use Rattle.std.proofs.Common.{ℕ, List, map, take, [], ◌∷◌, ◌++◌, ap, ◌∙◌, subst}
use Rattle.aes3_slot.specs.ReadWords.{read_words}
use Rattle.aes3_slot.specs.Slots.{payload_len}
use Rattle.aes3_lock.specs.declared.report.Ending.{Ending}
use Rattle.aes3_lock.specs.Following.{report_in}
use Rattle.aes3_engine.specs.RewritingExactly.{AreMetAt}
use Rattle.aes3_engine.proofs.RewritingExactly.{met-whole}
use Rattle.aes3_engine.proofs.rewriting_exactly.ExactlyRewrittenBlocks.put.Goals as goal

pub returns-in-Whole-clause-met : goal.returns-in-Whole-clause-met
returns-in-Whole-clause-met g c = λ xs h.
    met-whole c.put_block.new.self.met xs (report_in c.args.lock.now c.args.ending)
    (ap (λ (e : Ending). report_in c.args.lock.now e) c.in-Whole.is)
    (subst (λ b. AreMetAt c.put_block.new.self.met (xs ++ record { place = c.in-Whole.at; block = b } ∷ []))
    (c.block.ensures
    ∙ ap (λ (words : List ℕ). map (take payload_len) (read_words words)) c.gathered_cells.ensures)
    (c.put_block.ensures.met xs h))
