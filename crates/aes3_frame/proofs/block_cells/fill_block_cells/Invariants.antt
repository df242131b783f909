use Rattle.std.proofs.Common.{◌≡◌, ℕ, ◌<◌, ◌*◌, ◌/◌, ◌%◌, ◌==◌, get_or, length}
use Rattle.std.specs.Prelude.{if◌then◌else◌}
use Rattle.aes3_level.specs.Cells.{line}
use Rattle.aes3_level.specs.Words.{word_cells}
use Rattle.aes3_slot.specs.declared.mark.Mark.TheVariants.{X, Y}
use Rattle.aes3_slot.specs.Slots.{slot_runs, slots_bits}
use Rattle.aes3_frame.proofs.block_cells.fill_block_cells.Given as goal

abbrev pub invariant-loop-i : goal.invariant-loop-i
invariant-loop-i l = record {
  len : length l.cells ≡ 384;
  cells : (k : ℕ) → k < 4 * l.i
      → word_cells (get_or l.cells k 0) ≡ line l.before
      (slot_runs (if (k % 2) == 0 then X else Y) (slots_bits (get_or l.words k 0 / 16)));
}
