use Rattle.std.proofs.Common.{◌≡◌, drop, length, map, take}
use Rattle.aes3_c.specs.Watches.{event_numbers}
use Rattle.aes3_c.proofs.watch_calls.put_events.Given as goal

abbrev pub invariant-loop-i : goal.invariant-loop-i
invariant-loop-i l = record {
  len : length l.events ≡ 6;
  put : take l.i l.events ≡ map event_numbers (take l.i l.told);
  left : drop l.i l.events ≡ drop l.i l.fn.events;
}
