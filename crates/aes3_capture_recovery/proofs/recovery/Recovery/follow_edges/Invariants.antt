use Rattle.std.proofs.Common.{ℕ, List, ◌++◌, ◌≡◌, ◌≤◌, ◌<◌, ◌+◌, ◌^◌, ◌-◌, take, drop}
use Rattle.aes3_level.specs.declared.level.Level.{Level}
use Rattle.aes3_level.specs.Cells.{after, other}
use Rattle.aes3_capture.specs.declared.follower.Bounds.{Bounds}
use Rattle.aes3_capture_recovery.specs.Endings.{level_if}
use Rattle.aes3_capture_recovery.specs.Keeping.{IsKept, StaysKept}
use Rattle.aes3_capture_recovery.specs.Recovering.{Setting, StandsBehind}
use Rattle.aes3_capture_recovery.specs.RecoverySteps.{RunsCounted}
use Rattle.aes3_capture_recovery.specs.declared.recovery.State.TheVariants.{Following}
use Rattle.aes3_capture_recovery.proofs.recovery.Recovery.follow_edges.Given as goal

abbrev pub invariant-loop-at : goal.invariant-loop-at
invariant-loop-at g l = record {
  within : l.at ≤ l.count;
  quiet : g.T.Sink.failed l.sink ≡ g.T.Sink.failed l.fn.sink;
  samples : l.self.figures.samples ≡ l.fn.self.figures.samples;
  up : l.fn.self.figures.measured ≤ l.self.figures.measured;
  level : (before : Level) → level_if l.fn.high ≡ other before
      → level_if l.high ≡ other (after before (take l.at l.fn.places.runs));
  counted : l.fn.self.state ≡ Following → l.self.state ≡ Following
      → l.self.figures.measured ≡ l.fn.self.figures.measured → l.fn.self.figures.measured + 1 < 2 ^ 64
      → (before : Level) → level_if l.fn.high ≡ other before
      → RunsCounted g.T.Sink.taken l.fn.self.line l.self.line l.fn.sink l.sink before (take l.at l.fn.places.runs);
  none : l.at ≡ 0 → (l.self.state ≡ l.fn.self.state)
      × (l.self.figures.measured ≡ l.fn.self.figures.measured);
  told : (setting : Setting) (level : Level) (runs : List ℕ)
      → StandsBehind (g.T.Sink.taken l.fn.sink) setting level runs l.fn.self
      → level_if l.fn.high ≡ other (after level runs)
      → StandsBehind (g.T.Sink.taken l.sink) setting level (runs ++ take l.at l.fn.places.runs) l.self;
  stays : l.fn.self.state ≡ Following → (narrow : Bounds) (spread : ℕ) (more : List ℕ)
      → IsKept l.fn.self.line.follower l.fn.self.spread narrow spread (take l.count l.fn.places.runs ++ more)
      → StaysKept narrow spread (drop l.at (take l.count l.fn.places.runs) ++ more) l.fn.self l.self;
}

abbrev pub decreases-loop-at : goal.decreases-loop-at
decreases-loop-at g l = l.count - l.at
