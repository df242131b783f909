use Rattle.std.proofs.Common.{sym, ap, ◌∙◌, arith, map}
use Rattle.aes3_level.specs.Cells.{other, line}
use Rattle.aes3_level.specs.Words.{word_cells, word_len}
use Rattle.aes3_slot.specs.Slots.{slot_runs, slots_bits}
use Rattle.aes3_slot.specs.Turns.{cells_of_turns, run_turns}
use Rattle.aes3_slot.proofs.Turns.{line-turns, cells_of_turns-other, low_cells-not}
use Rattle.aes3_level.specs.declared.level.Level.TheVariants.{Low, High}
use Rattle.aes3_slot.proofs.subframe_encoding.slots_cells.Goals as goal

pub returns-in-Low : goal.returns-in-Low
returns-in-Low c =
    c.cells_from_turns-cells.ensures ∙ ap (cells_of_turns Low) c.slot_turns.ensures
    ∙ sym (line-turns Low c.args.mark (slots_bits c.args.slots))
    ∙ ap (λ s. line s (slot_runs c.args.mark (slots_bits c.args.slots))) (sym c.in-Low.is)

pub returns-in-High : goal.returns-in-High
unfolding word_cells word_len
returns-in-High c =
    low_cells-not 64 c.cells_from_turns-cells.result (omega arith) (omega arith)
    ∙ ap (map other) (c.cells_from_turns-cells.ensures ∙ ap (cells_of_turns Low) c.slot_turns.ensures)
    ∙ sym (cells_of_turns-other Low (run_turns (slot_runs c.args.mark (slots_bits c.args.slots))))
    ∙ sym (line-turns High c.args.mark (slots_bits c.args.slots))
    ∙ ap (λ s. line s (slot_runs c.args.mark (slots_bits c.args.slots))) (sym c.in-High.is)
