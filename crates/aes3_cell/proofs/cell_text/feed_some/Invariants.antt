use Rattle.std.proofs.Common.{◌-◌, ◌<◌, ◌≤◌, length, take}
use Rattle.aes3_level.specs.Words.{low_cells}
use Rattle.aes3_cell.specs.TextReading.{TextRead}
use Rattle.aes3_cell.proofs.cell_text.feed_some.Given as goal

abbrev pub invariant-loop-at : goal.invariant-loop-at
invariant-loop-at l = record {
  some : 0 < l.at;
  within : l.at ≤ length l.piece;
  read : TextRead l.fn.text l.text (take l.at l.piece) (low_cells l.cells.len l.cells.word);
}

abbrev pub decreases-loop-at : goal.decreases-loop-at
decreases-loop-at l = length l.piece - l.at
