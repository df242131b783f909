use Rattle.std.proofs.Common.{◌≡◌, ◌≤◌, ◌*◌, length, take}
use Rattle.std.specs.List.{flat_map}
use Rattle.aes3_cell.specs.Text.{text_of}
use Rattle.aes3_level.specs.Words.{word_cells}
use Rattle.aes3_cell.proofs.cell_text.words_of_lines.Given as goal

abbrev pub invariant-loop-i : goal.invariant-loop-i
invariant-loop-i l = record {
  within : 65 * l.i ≤ length l.text;
  lines : take (65 * l.i) l.text ≡ text_of (flat_map word_cells (take l.i l.words));
}
