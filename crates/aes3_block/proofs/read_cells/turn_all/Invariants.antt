use Rattle.std.proofs.Common.{◌≡◌, length, map, take}
use Rattle.std.specs.List.{flat_map}
use Rattle.aes3_level.specs.Cells.{line}
use Rattle.aes3_level.specs.Words.{word_cells}
use Rattle.aes3_frame.specs.Blocks.{block_runs}
use Rattle.aes3_frame.proofs.SlotWords.{carried}
use Rattle.aes3_block.proofs.read_cells.turn_all.Given as goal

abbrev pub invariant-loop-subframe : goal.invariant-loop-subframe
invariant-loop-subframe l = record {
  cells : l.wrong ≡ 0
      → flat_map word_cells (take l.subframe l.cells) ≡ line l.before (block_runs (map carried (take l.subframe l.words)));
  len : length l.cells ≡ 384;
}
