use Rattle.std.proofs.Common.{◌-◌, ◌≡◌}
use Rattle.aes3_cell.specs.Buffering.{followed_by, held}
use Rattle.aes3_cell.proofs.buffered.BufferedSink.drain.Given as goal

abbrev pub invariant-loop-self : goal.invariant-loop-self
invariant-loop-self g l = record {
  taken : followed_by (g.T.Sink.taken l.self.sink) (held l.self.start l.self.end l.self.bytes.items)
      ≡ followed_by (g.T.Sink.taken l.fn.self.sink) (held l.fn.self.start l.fn.self.end l.fn.self.bytes.items);
  quiet : g.T.Sink.failed l.self.sink ≡ g.T.Sink.failed l.fn.self.sink;
}

abbrev pub decreases-loop-self : goal.decreases-loop-self
decreases-loop-self g l = l.self.end - l.self.start
