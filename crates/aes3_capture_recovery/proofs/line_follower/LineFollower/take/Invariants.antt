use Rattle.std.proofs.Common.{ℕ, List, [], ◌++◌, ◌≡◌}
use Rattle.aes3_level.specs.declared.level.Level.{Level}
use Rattle.aes3_capture.specs.declared.follower.Follower.{Follower}
use Rattle.aes3_capture_recovery.specs.Runs.{levels_in}
use Rattle.aes3_capture_recovery.specs.LineFollowing.{Followed}
use Rattle.aes3_capture_recovery.proofs.line_follower.LineFollower.take.Given as goal

abbrev pub invariant-loop-run : goal.invariant-loop-run
invariant-loop-run g l = record {
  quiet : g.T.Sink.failed l.sink ≡ g.T.Sink.failed l.fn.sink;
  followed : (begun : List ℕ) (front : List Level) (first : Follower) (before : Level) (levels : List Level)
      → Followed (g.T.Sink.taken l.fn.sink) begun front l.fn.self first before levels []
      → Followed (g.T.Sink.taken l.sink) begun front l.self first before (levels ++ levels_in l.fn.piece)
      (levels_in l.left);
}

abbrev pub decreases-loop-run : goal.decreases-loop-run
decreases-loop-run g l = l.left.len
