use Rattle.std.proofs.Common.{◌≡◌, take}
use Rattle.aes3_cell.specs.Ends.{Grew}
use Rattle.aes3_watch.specs.Watching.{event_lines}
use Rattle.aes3_watch.proofs.watching.put_events.Given as goal

abbrev pub invariant-loop-event : goal.invariant-loop-event
invariant-loop-event g l = record {
  grew : Grew (g.T.Sink.taken l.fn.sink) (g.T.Sink.taken l.sink) (event_lines l.style (take l.event-index l.events));
  quiet : g.T.Sink.failed l.sink ≡ g.T.Sink.failed l.fn.sink;
}
