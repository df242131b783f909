use Rattle.std.proofs.Common.{◌≡◌}
use Rattle.aes3_cell.specs.Ends.{Grew}
use Rattle.aes3_engine.specs.Filling.{repeated}
use Rattle.aes3_engine.proofs.filling.put_frames.Given as goal

abbrev pub invariant-frames : goal.invariant-frames
invariant-frames g l = record {
  grew : Grew (g.T.Sink.taken l.fn.sink) (g.T.Sink.taken l.sink) (repeated l._written l.frame);
  quiet : g.T.Sink.failed l.sink ≡ g.T.Sink.failed l.fn.sink;
}
