use Rattle.std.proofs.Common.{◌≡◌, ◌*◌, ◌≤◌, length, take}
use Rattle.std.specs.List.{flat_map}
use Rattle.aes3_level.specs.Words.{word_cells}
use Rattle.aes3_cell.specs.TextReading.{TextRead}
use Rattle.aes3_cell.proofs.cell_text.feed_any_lines.Given as goal

abbrev pub invariant-loop-count : goal.invariant-loop-count
invariant-loop-count l = record {
  within : l.at ≤ length l.piece;
  long : 64 * l.count ≤ l.at;
  len : length l.words ≡ 64;
  read : TextRead l.fn.text l.text (take l.at l.piece) (flat_map word_cells (take l.count l.words));
}
