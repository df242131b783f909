use Rattle.std.proofs.Common.{◌≡◌, ◌≤◌, take}
use Rattle.aes3_watch.specs.Sums.{changes_in}
use Rattle.aes3_watch.proofs.summing.changes_in.Given as goal

abbrev pub invariant-loop-event : goal.invariant-loop-event
invariant-loop-event l = record {
  sum : l.found ≡ changes_in (take l.event-index l.events);
  few : l.found ≤ l.event-index;
}
