use Rattle.std.proofs.Common.{◌≡◌, false, take}
use Rattle.aes3_files.specs.Packed.{bits_down}
use Rattle.aes3_files.proofs.PackedPairs.{in_pairs}
use Rattle.aes3_files.proofs.packed.are_packed.Given as goal

abbrev pub invariant-loop-at : goal.invariant-loop-at
invariant-loop-at l = in_pairs bits_down (take l.at l.first) ≡ false
