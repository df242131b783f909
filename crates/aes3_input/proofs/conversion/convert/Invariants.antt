use Rattle.std.proofs.Common.{◌≡◌, ◌+◌, ◌-◌, ◌≤◌, ◌<◌, length}
use Rattle.aes3_input.proofs.Pieces.{Upto}
use Rattle.aes3_input.proofs.conversion.convert.Given as goal

abbrev pub invariant-pieces : goal.invariant-pieces
invariant-pieces g l = record {
  upto : Upto (g.I.Input.state l.fn.input l.fn.taker).reads (g.I.Input.state l.input l.taker).reads
      (g.I.Input.state l.fn.input l.fn.taker).follows (g.I.Input.state l.input l.taker).follows
      (g.S.Source.given l.fn.source) (g.S.Source.given l.source) (g.T.Sink.taken l.fn.sink) (g.T.Sink.taken l.sink)
      l.seen;
  short : l.seen ≤ l.max_bytes;
  quiet_source : g.S.Source.failed l.source ≡ g.S.Source.failed l.fn.source;
  quiet_sink : g.T.Sink.failed l.sink ≡ g.T.Sink.failed l.fn.sink;
  passed : g.T.Sink.passed l.fn.sink ≡ g.T.Sink.taken l.fn.sink → g.T.Sink.passed l.sink ≡ g.T.Sink.taken l.sink;
  gone : 0 < l.seen → g.T.Sink.passed l.sink ≡ g.T.Sink.taken l.sink;
  buffer : length l.piece ≡ 131072;
}

abbrev pub decreases-pieces : goal.decreases-pieces
decreases-pieces g l = l.max_bytes + 1 - l.seen
