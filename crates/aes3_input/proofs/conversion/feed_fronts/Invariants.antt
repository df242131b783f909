use Rattle.std.proofs.Common.{◌≡◌, ◌-◌, ◌≤◌, length, take}
use Rattle.aes3_input.specs.Running.{Fed}
use Rattle.aes3_input.proofs.conversion.feed_fronts.Given as goal

abbrev pub invariant-loop-at : goal.invariant-loop-at
invariant-loop-at g l = record {
  within : l.at ≤ length l.piece;
  fed : Fed (g.I.Input.state l.fn.input l.fn.taker).reads (g.I.Input.state l.input l.taker).reads
      (g.I.Input.state l.fn.input l.fn.taker).follows (g.I.Input.state l.input l.taker).follows
      (g.T.Sink.taken l.fn.sink) (g.T.Sink.taken l.sink) (take l.at l.piece);
  quiet : g.T.Sink.failed l.sink ≡ g.T.Sink.failed l.fn.sink;
}

abbrev pub decreases-loop-at : goal.decreases-loop-at
decreases-loop-at g l = length l.piece - l.at
