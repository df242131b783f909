use Rattle.std.proofs.Common.{◌≡◌, ◌%◌, ◌==◌, [], ◌∷◌, refl}
use Rattle.std.specs.Prelude.{if◌then◌else◌}
use Rattle.aes3_level.specs.Cells.{line}
use Rattle.aes3_level.specs.Words.{word_cells}
use Rattle.aes3_slot.specs.Slots.{slot_runs, slots_bits}
use Rattle.aes3_slot.proofs.FourSubframes.{cells-of-four, two-in-turn}
use Rattle.aes3_slot.proofs.four.slots_cells_of_four.Goals as goal

pub returns-clause-cells : goal.returns-clause-cells
returns-clause-cells c =
    let s = c.args.before in
    let first = c.slots_cells-first.ensures in
    let second = c.slots_cells-second.ensures in
    cells-of-four s (λ i. if (i % 2) == 0 then c.args.even else c.args.odd)
    (c.slots_cells-first.result ∷ c.slots_cells-second.result ∷ c.slots_cells-first.result ∷ c.slots_cells-second.result
    ∷ []) c.spread_words-turned.result c.odd_so_far.result c.args.words refl c.spread_words-turned.ensures.len
    (two-in-turn
    (λ i z. word_cells z ≡ line s
    (slot_runs (if (i % 2) == 0 then c.args.even else c.args.odd)
    (slots_bits 0))) c.slots_cells-first.result c.slots_cells-second.result first second first second)
    c.spread_words-turned.ensures.bits c.odd_so_far.ensures.first c.odd_so_far.ensures.next c.requires
