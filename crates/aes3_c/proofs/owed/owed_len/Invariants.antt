use Rattle.std.proofs.Common.{◌≡◌, ◌≤◌, ◌+◌, ◌*◌, ◌^◌, length}
use Rattle.aes3_c.specs.Owed.{owed_in}
use Rattle.aes3_c.proofs.OwedOctets.{from_stretch}
use Rattle.aes3_c.proofs.owed.owed_len.Given as goal

abbrev pub invariant-loop-i : goal.invariant-loop-i
invariant-loop-i l = record {
  small : l.octets ≤ 2 ^ 32 * l.i;
  rest : l.octets + length (from_stretch l.i l.fn.owed.len l.fn.owed.octets l.fn.owed.counts) ≡ length (owed_in l.fn.owed);
}
