use Rattle.std.proofs.Common.{◌≡◌, ◌-◌, ◌<◌, ◌≤◌, ◌++◌, length, take}
use Rattle.std.specs.List.{flat_map}
use Rattle.aes3_level.specs.Words.{low_cells, word_cells}
use Rattle.aes3_cell.specs.TextReading.{TextRead}
use Rattle.aes3_cell.proofs.cell_text.feed_chunks.Given as goal

abbrev pub invariant-loop-count : goal.invariant-loop-count
invariant-loop-count l = record {
  within : l.bytes ≤ length l.piece;
  few : l.count ≤ 64;
  len : length l.words ≡ 64;
  short : l.rest.len < 64;
  none : l.bytes ≡ 0 → l.text ≡ l.fn.text;
  read : TextRead l.fn.text l.text (take l.bytes l.piece)
      (flat_map word_cells (take l.count l.words) ++ low_cells l.rest.len l.rest.word);
}

abbrev pub decreases-loop-count : goal.decreases-loop-count
decreases-loop-count l = length l.piece - l.bytes
