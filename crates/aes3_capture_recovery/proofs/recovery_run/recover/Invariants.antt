use Rattle.std.proofs.Common.{◌≡◌, ◌<◌, length, take}
use Rattle.aes3_capture_recovery.proofs.Reading.{Upto}
use Rattle.aes3_capture_recovery.proofs.recovery_run.recover.Given as goal

abbrev pub invariant-pieces : goal.invariant-pieces
invariant-pieces g l = record {
  buffer : length l.piece ≡ 131072;
  part : l.kept < 2;
  quiet_source : g.S.Source.failed l.source ≡ g.S.Source.failed l.fn.source;
  quiet_sink : g.T.Sink.failed l.sink ≡ g.T.Sink.failed l.fn.sink;
  passed : g.T.Sink.passed l.fn.sink ≡ g.T.Sink.taken l.fn.sink → g.T.Sink.passed l.sink ≡ g.T.Sink.taken l.sink;
  gone : 0 < l.reads → g.T.Sink.passed l.sink ≡ g.T.Sink.taken l.sink;
  upto : Upto l.fn.unit (g.S.Source.given l.fn.source) (g.S.Source.given l.source) g.T.Sink.taken l.fn.recovery l.recovery
      l.fn.sink l.sink (take l.kept l.piece) l.reads;
}
