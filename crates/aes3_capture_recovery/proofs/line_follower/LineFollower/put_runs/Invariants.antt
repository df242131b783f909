use Rattle.std.proofs.Common.{◌≡◌, ◌≤◌, ◌-◌, take, length}
use Rattle.aes3_level.specs.declared.level.Level.{Level}
use Rattle.aes3_level.specs.Cells.{after, line, other}
use Rattle.aes3_capture_recovery.specs.Endings.{level_if}
use Rattle.aes3_capture_recovery.proofs.Queueing.{Put}
use Rattle.aes3_capture_recovery.proofs.line_follower.LineFollower.put_runs.Given as goal

abbrev pub invariant-loop-at : goal.invariant-loop-at
invariant-loop-at g l = record {
  quiet : g.T.Sink.failed l.sink ≡ g.T.Sink.failed l.fn.sink;
  within : l.at ≤ length l.runs;
  cells : (before : Level) → level_if l.high ≡ other before
      → Put g.T.Sink.taken l.fn.self.queue l.self.queue l.fn.sink l.sink (line before (take l.at l.runs));
  after : (before : Level) → after before (take l.at l.runs) ≡ before;
  edges : l.self.edges ≡ l.fn.self.edges;
  follower : l.self.follower ≡ l.fn.self.follower;
}

abbrev pub decreases-loop-at : goal.decreases-loop-at
decreases-loop-at g l = length l.runs - l.at
