use Rattle.std.proofs.Common.{◌≡◌, length, map, take}
use Rattle.std.specs.List.{flat_map}
use Rattle.aes3_level.specs.Cells.{other}
use Rattle.aes3_level.specs.Words.{word_cells}
use Rattle.aes3_block.proofs.read_cells.invert_all.Given as goal

abbrev pub invariant-loop-subframe : goal.invariant-loop-subframe
invariant-loop-subframe l = record {
  cells : flat_map word_cells (take l.subframe l.cells) ≡ map other (flat_map word_cells (take l.subframe l.words));
  len : length l.cells ≡ 384;
}
