use Rattle.std.proofs.Common.{◌≡◌}
use Rattle.aes3_c.proofs.ReversedBits.{front_reversed}
use Rattle.aes3_c.proofs.reversed_octets.aes3_reverse_octets.Given as goal

abbrev pub invariant-loop-i : goal.invariant-loop-i
invariant-loop-i l = l.octets ≡ front_reversed l.i l.fn.octets
