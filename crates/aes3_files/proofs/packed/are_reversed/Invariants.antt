use Rattle.std.proofs.Common.{◌≡◌, take}
use Rattle.aes3_files.specs.Packed.{bits_down, bits_up}
use Rattle.aes3_files.proofs.PackedPairs.{in_pairs}
use Rattle.aes3_files.proofs.packed.are_reversed.Given as goal

abbrev pub invariant-loop-at : goal.invariant-loop-at
invariant-loop-at l = record {
  down : l.is_long ≡ in_pairs bits_down (take l.at l.first);
  up : l.is_long_reversed ≡ in_pairs bits_up (take l.at l.first);
}
