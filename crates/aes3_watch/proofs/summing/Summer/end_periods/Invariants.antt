use Rattle.std.proofs.Common.{◌≡◌}
use Rattle.aes3_cell.specs.Ends.{Grew}
use Rattle.aes3_watch.specs.Sums.{notice_lines, periods, periods_told, with_period}
use Rattle.aes3_watch.proofs.summing.Summer.end_periods.Given as goal

abbrev pub invariant-ending : goal.invariant-ending
invariant-ending g l = record {
  style : l.self.watcher.style ≡ l.fn.self.watcher.style;
  lasts : l.self.watcher.lasts ≡ l.fn.self.watcher.lasts;
  every : l.self.every ≡ l.fn.self.every;
  state : with_period l.self.watcher.state l.self.period
      ≡ periods l.fn.self.every l._told
      (with_period l.fn.self.watcher.state l.fn.self.period);
  grew : Grew (g.T.Sink.taken l.fn.sink) (g.T.Sink.taken l.sink)
      (notice_lines l.fn.self.watcher.style (periods_told l.fn.self.every l._told
      (with_period l.fn.self.watcher.state l.fn.self.period)));
  quiet : g.T.Sink.failed l.sink ≡ g.T.Sink.failed l.fn.sink;
}
