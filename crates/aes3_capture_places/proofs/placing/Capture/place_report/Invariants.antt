use Rattle.std.proofs.Common.{◌≡◌}
use Rattle.aes3_capture_places.proofs.placing.Capture.place_report.Given as goal

abbrev pub invariant-pieces : goal.invariant-pieces
invariant-pieces g l = record {
  report_well : g.R.Source.failed l.report ≡ g.R.Source.failed l.fn.report;
  samples_well : g.S.Source.failed l.samples ≡ g.S.Source.failed l.fn.samples;
  sink_well : g.T.Sink.failed l.sink ≡ g.T.Sink.failed l.fn.sink;
}
