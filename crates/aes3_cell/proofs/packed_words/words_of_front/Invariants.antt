use Rattle.std.proofs.Common.{◌≡◌, ◌*◌, take}
use Rattle.std.specs.List.{flat_map}
use Rattle.aes3_cell.specs.Packed.{cells_of_octets}
use Rattle.aes3_level.specs.Words.{word_cells}
use Rattle.aes3_cell.proofs.packed_words.words_of_front.Given as goal

abbrev pub invariant-loop-i : goal.invariant-loop-i
invariant-loop-i l = record
    { cells : flat_map word_cells (take (8 * l.i) l.words) ≡ cells_of_octets (take (64 * l.i) l.octets) }
