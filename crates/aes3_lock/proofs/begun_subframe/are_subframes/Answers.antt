use Rattle.std.proofs.Common.{◌≡◌, ℕ, ◌+◌, ◌%◌, ◌<◌, ◌==◌, ◌∙◌, ap₂, subst, get_or, true}
use Rattle.std.specs.Prelude.{bit_or, if◌then◌else◌}
use Rattle.std.specs.Simd.Lanes.{fold_l}
use Rattle.std.proofs.lemmas.Bool.{eqb-true}
use Rattle.aes3_level.specs.Words.{word_cells}
use Rattle.aes3_slot.specs.Fronts.{stands_even}
use Rattle.aes3_frame.specs.Blocks.{mark_at}
use Rattle.aes3_lock.proofs.EightWords.{lane-stands, mark-behind, even-front, even-last, even-word}
use Rattle.aes3_lock.proofs.begun_subframe.are_subframes.Goals as goal

told : (c : goal.After-wrong_cells_of_eight) → fold_l bit_or 0 c.wrong_cells_of_eight.result ≡ 0 → (i : ℕ) → i < 8
    → (k : ℕ) → k < 64
    → stands_even c.args.before (mark_at (c.args.subframe + i)) (word_cells (get_or c.args.cells.now i 0)) k ≡ true
told c z i h k g =
    subst (λ m. stands_even c.args.before m (word_cells (get_or c.args.cells.now i 0)) k ≡ true)
    (ap₂ (λ a b. if (i % 2) == 0 then a else b) c.mark_of.ensures c.mark_of-2.ensures
    ∙ mark-behind c.args.subframe i c.requires.some)
    (lane-stands c.args.before
    (λ i. if (i % 2) == 0 then c.mark_of.result else c.mark_of-2.result) c.args.cells.now
    c.wrong_cells_of_eight.result
    c.wrong_cells_of_eight.ensures z i k h g)

pub returns-clause-fronts : goal.returns-clause-fronts
returns-clause-fronts c = λ z i h.
    even-front c.args.before (mark_at (c.args.subframe + i)) (get_or c.args.cells.now i 0) (told c (eqb-true _ 0 z) i h)

pub returns-clause-levels : goal.returns-clause-levels
returns-clause-levels c = λ z i h.
    even-last c.args.before (mark_at (c.args.subframe + i)) (get_or c.args.cells.now i 0) (told c (eqb-true _ 0 z) i h)

pub returns-clause-right : goal.returns-clause-right
returns-clause-right c = λ z i h.
    even-word c.args.before (mark_at (c.args.subframe + i)) (get_or c.args.cells.now i 0) (told c (eqb-true _ 0 z) i h)
