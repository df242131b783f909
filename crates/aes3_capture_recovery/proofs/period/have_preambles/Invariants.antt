use Rattle.std.proofs.Common.{◌≡◌, ◌≤◌, ◌<◌, ◌+◌, ◌-◌, ◌*◌, drop, take}
use Rattle.aes3_capture_recovery.specs.Measuring.{places_from, preambles_from}
use Rattle.aes3_capture_recovery.proofs.period.have_preambles.Given as goal

abbrev pub invariant-loop-i : goal.invariant-loop-i
invariant-loop-i l = record {
  few : l.found ≤ l.i;
  some : l.due ≤ 2 * l.i;
  within : l.place < 64;
  found : l.found + preambles_from l.place (drop l.i (take l.fn.count l.cells)) ≡ preambles_from l.initial.place (take l.fn.count l.cells);
  due : l.due + places_from l.place (drop l.i (take (l.fn.count - 3) (take l.fn.count l.cells)))
      ≡ places_from l.initial.place (take (l.fn.count - 3) (take l.fn.count l.cells));
}
