use Rattle.std.proofs.Common.{ℕ, List, ◌+◌, ◌-◌, ◌∷◌, ◌++◌, refl, ap, ap₂, ◌∙◌, sym, arith}
use Rattle.std.specs.Prelude.{option_to_list, option_map}
use Rattle.aes3_level.specs.declared.level.Level.{Level}
use Rattle.aes3_slot.specs.declared.mark.Mark.{Mark}
use Rattle.aes3_slot.specs.Preambles.{with_seven}
use Rattle.aes3_lock.specs.Preambles.{placed}
use Rattle.aes3_lock.specs.MarkBits.{marks_left}
use Rattle.aes3_lock.proofs.MarkBits.{none-left, first-left, first-is}
use Rattle.aes3_lock.proofs.word_marks.WordMarks.take_next.Goals as goal

pub returns-then-self-eq0-clause-end : goal.returns-then-self-eq0-clause-end
returns-then-self-eq0-clause-end c =
    λ e. sym c.self.view_is
    ∙ none-left c.self.inside.seen (with_seven c.self.inside.cells c.self.inside.next) c.self.inside.left
    (omega arith)

-- a preamble before others
abbrev led : ℕ → Mark → Level → List (ℕ × Mark × Level) → List (ℕ × Mark × Level)
led k m v rest = (k, m, v) ∷ rest

pub returns-clause-next : goal.returns-clause-next
returns-clause-next c =
    let s = c.self.inside in
    let b = with_seven s.cells s.next in
    let t = c.first_of_places-place in
    let w = c.without-self-inside in
    sym c.self.view_is
    ∙ first-left s.seen b s.left w.result t.result t.ensures.first t.ensures.is w.ensures.gone w.ensures.others
    t.ensures.within
    ∙ ap (λ o. option_to_list (option_map (placed (s.seen + t.result - 7)) o) ++ marks_left s.seen b w.result)
    (first-is s.cells s.next s.left s.x s.y s.seen t.result t.ensures.within t.ensures.is c.self.invariant.1)
    ∙ ap₂ (λ m v. led (s.seen + t.result - 7) m v (marks_left s.seen b w.result)) (sym c.mark_at.ensures)
    (sym c.level_before.ensures)
    ∙ ap (λ k. led k c.mark_at.result c.level_before.result (marks_left s.seen b w.result))
    (omega (arith, c.from.ensures))

pub returns-then-self-eq0-clause-next : goal.returns-then-self-eq0-clause-next
returns-then-self-eq0-clause-next c = refl

pub returns-clause-end : goal.returns-clause-end
returns-clause-end c = λ e. cc
