use Rattle.std.proofs.Common.{◌≡◌, ◌++◌, drop, length, take}
use Rattle.aes3_c.specs.Owed.{owed_in}
use Rattle.aes3_c.proofs.owed.put_owed.Given as goal

abbrev pub invariant-loop-i : goal.invariant-loop-i
invariant-loop-i l = record {
  long : length l.cells ≡ length l.initial.cells;
  put : take l.i l.cells ++ owed_in l.owed ≡ take l.fn.at l.initial.cells ++ owed_in l.initial.owed;
  rest : drop l.i l.cells ≡ drop l.i l.initial.cells;
}
