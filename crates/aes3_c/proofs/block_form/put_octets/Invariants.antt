use Rattle.std.proofs.Common.{◌≡◌, ◌*◌, length, take}
use Rattle.std.specs.List.{flat_map}
use Rattle.aes3_level.specs.Words.{word_cells}
use Rattle.aes3_cell.specs.Packed.{octets_of}
use Rattle.aes3_c.proofs.block_form.put_octets.Given as goal

abbrev pub invariant-loop-slot : goal.invariant-loop-slot
invariant-loop-slot l = record {
  len : length l.octets ≡ 3072;
  put : take (8 * l.slot) l.octets ≡ octets_of (flat_map word_cells (take l.slot l.cells));
}
