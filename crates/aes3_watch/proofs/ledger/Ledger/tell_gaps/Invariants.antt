use Rattle.std.proofs.Common.{◌≡◌, ◌-◌}
use Rattle.aes3_watch.proofs.GapWrites.{ToldGaps}
use Rattle.aes3_watch.proofs.ledger.Ledger.tell_gaps.Given as goal

abbrev pub invariant-loop-gap : goal.invariant-loop-gap
invariant-loop-gap g l = record {
  told : ToldGaps (g.T.Sink.taken l.fn.sink) (g.T.Sink.taken l.sink)
      l.fn.self.lines l.fn.self.account.place l.self.account.place l.fn.self.lost l.self.lost l.due;
  lines : l.self.lines ≡ l.fn.self.lines;
  found : l.self.account.found ≡ l.fn.self.account.found;
  quiet : g.T.Sink.failed l.sink ≡ g.T.Sink.failed l.fn.sink;
}

abbrev pub decreases-loop-gap : goal.decreases-loop-gap
decreases-loop-gap g l = l.due.to - l.self.account.place
