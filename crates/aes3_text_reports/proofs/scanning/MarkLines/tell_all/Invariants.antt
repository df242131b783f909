use Rattle.std.proofs.Common.{◌≡◌, ◌+◌, ◌≤◌, length}
use Rattle.aes3_text_lines.proofs.Gathering.{Telling}
use Rattle.aes3_text_reports.proofs.scanning.MarkLines.tell_all.Given as goal

abbrev pub invariant-loop-mark : goal.invariant-loop-mark
invariant-loop-mark g l = record {
  telling : Telling (g.T.Sink.taken l.fn.sink) (g.T.Sink.taken l.sink)
      l.fn.self.lines l.self.lines l.fn.self.marks l.self.marks l.fn.found l.left;
  scan : l.self.scan ≡ l.fn.self.scan;
  fits : length l.self.lines + 40 ≤ 4096;
  quiet : g.T.Sink.failed l.sink ≡ g.T.Sink.failed l.fn.sink;
}

abbrev pub decreases-loop-mark : goal.decreases-loop-mark
decreases-loop-mark g l = length l.left
