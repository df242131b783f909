use Rattle.std.proofs.Common.{ℕ, List, [], ◌++◌, ◌≡◌, ◌≤◌, ◌<◌, ◌+◌, ◌^◌, false}
use Rattle.aes3_level.specs.declared.level.Level.{Level}
use Rattle.aes3_level.specs.Words.{low_cells}
use Rattle.aes3_capture.specs.declared.follower.Bounds.{Bounds}
use Rattle.aes3_capture.specs.declared.follower.Follower.{Follower}
use Rattle.aes3_capture_recovery.specs.Beginning.{Awaits, Began}
use Rattle.aes3_capture_recovery.specs.Keeping.{IsOnLine, StaysOnLine}
use Rattle.aes3_capture_recovery.specs.Runs.{levels_in}
use Rattle.aes3_capture_recovery.specs.LineFollowing.{Followed}
use Rattle.aes3_capture_recovery.specs.Recovering.{Recovered, Setting}
use Rattle.aes3_capture_recovery.specs.declared.recovery.State.TheVariants.{Following}
use Rattle.aes3_capture_recovery.proofs.recovery.Recovery.take.Given as goal

abbrev pub invariant-loop-run : goal.invariant-loop-run
invariant-loop-run g l = record {
  quiet : g.T.Sink.failed l.sink ≡ g.T.Sink.failed l.fn.sink;
  up : l.fn.self.figures.measured ≤ l.self.figures.measured;
  some : 1 ≤ l.fn.self.figures.samples → 1 ≤ l.self.figures.samples;
  begun : (l.fn.self.state ≡ Following → ⊥) → l.self.state ≡ Following → l.fn.self.figures.measured + 1 < 2 ^ 64
      → l.fn.self.figures.measured < l.self.figures.measured;
  followed : l.fn.self.state ≡ Following → l.self.state ≡ Following
      → l.self.figures.measured ≡ l.fn.self.figures.measured → l.fn.self.figures.measured + 1 < 2 ^ 64
      → 1 ≤ l.fn.self.figures.samples
      → (begun : List ℕ) (front : List Level) (first : Follower) (before : Level) (seen : List Level)
      → Followed (g.T.Sink.taken l.fn.sink) begun front l.fn.self.line first before seen []
      → Followed (g.T.Sink.taken l.sink) begun front l.self.line first before
      (seen ++ low_cells l.fn.len l.fn.levels) (levels_in l.piece);
  recovered : (setting : Setting) (seen : List Level) → Recovered (g.T.Sink.taken l.fn.sink) setting seen [] l.fn.self
      → Recovered (g.T.Sink.taken l.sink) setting (seen ++ low_cells l.fn.len l.fn.levels) (levels_in l.piece) l.self;
  unfound : l.fn.self.figures.measured + 1 < 2 ^ 64 → l.self.figures.measured ≡ l.fn.self.figures.measured
      → l.self.found ≡ l.fn.self.found;
  begins : l.fn.self.found ≡ false → l.self.state ≡ Following → l.self.figures.measured ≡ 1
      → (setting : Setting) (seen : List Level) → Recovered (g.T.Sink.taken l.fn.sink) setting seen [] l.fn.self
      → Began (g.T.Sink.taken l.sink) setting (seen ++ low_cells l.fn.len l.fn.levels) (levels_in l.piece) l.self;
  awaits : (setting : Setting) (seen : List Level) → Awaits (g.T.Sink.taken l.fn.sink) setting seen [] l.fn.self
      → Awaits (g.T.Sink.taken l.sink) setting (seen ++ low_cells l.fn.len l.fn.levels) (levels_in l.piece) l.self;
  stays : (narrow : Bounds) (spread : ℕ) (more : List Level)
      → IsOnLine narrow spread (low_cells l.fn.len l.fn.levels ++ more) l.fn.self
      → StaysOnLine narrow spread (levels_in l.piece ++ more) l.fn.self l.self;
}

abbrev pub decreases-loop-run : goal.decreases-loop-run
decreases-loop-run g l = l.piece.len
