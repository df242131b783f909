use Rattle.std.proofs.Common.{◌≡◌, ◌*◌, ◌++◌, take, drop, map}
use Rattle.aes3_cell_octets.specs.Octets.{reversed}
use Rattle.aes3_cell_octets.proofs.reversing.reverse_bits.Given as goal

abbrev pub invariant-loop-i : goal.invariant-loop-i
invariant-loop-i l = l.octets ≡ map reversed (take (8 * l.i) l.fn.octets) ++ drop (8 * l.i) l.fn.octets
