use Rattle.std.proofs.Common.{◌≡◌, ◌++◌, take}
use Rattle.aes3_c.specs.Owed.{HasFewest, owed_in}
use Rattle.aes3_c.proofs.owed.owe_all.Given as goal

abbrev pub invariant-loop-i : goal.invariant-loop-i
invariant-loop-i l = record {
  first : l.owed.first ≡ 0;
  fewest : HasFewest l.owed;
  owes : owed_in l.owed ≡ owed_in l.initial.owed ++ take l.i l.octets;
}
