use Rattle.std.proofs.Common.{◌≡◌, ◌≤◌}
use Rattle.aes3_capture_places.proofs.placing.Capture.place_piece.Given as goal

abbrev pub invariant-loop-at : goal.invariant-loop-at
invariant-loop-at g l = record {
  within : l.from ≤ l.at;
  samples_well : g.S.Source.failed l.samples ≡ g.S.Source.failed l.fn.samples;
  sink_well : g.T.Sink.failed l.sink ≡ g.T.Sink.failed l.fn.sink;
}
