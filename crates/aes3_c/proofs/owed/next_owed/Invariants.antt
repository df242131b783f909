use Rattle.std.proofs.Common.{◌-◌, ◌≡◌, length}
use Rattle.aes3_c.specs.Owed.{owed_in}
use Rattle.aes3_c.proofs.owed.next_owed.Given as goal

abbrev pub invariant-loop-owed : goal.invariant-loop-owed
invariant-loop-owed l = record {
  len_is : l.owed.len ≡ l.initial.owed.len;
  long : length l.owed.octets ≡ 1024;
  same : owed_in l.owed ≡ owed_in l.initial.owed;
}

abbrev pub decreases-loop-owed : goal.decreases-loop-owed
decreases-loop-owed l = l.len - l.owed.first
