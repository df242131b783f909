use Rattle.std.proofs.Common.{◌≡◌, take}
use Rattle.aes3_level.specs.declared.level.Level.{Level}
use Rattle.aes3_level.specs.Cells.{after, other}
use Rattle.aes3_capture_recovery.specs.Endings.{level_if}
use Rattle.aes3_capture_recovery.specs.RecoverySteps.{KeepsRuns, RunsTold}
use Rattle.aes3_capture_recovery.proofs.recovery.Recovery.release.Given as goal

abbrev pub invariant-loop-i : goal.invariant-loop-i
invariant-loop-i g l = record {
  quiet : g.T.Sink.failed l.sink ≡ g.T.Sink.failed l.fn.sink;
  state : l.self.state ≡ l.fn.self.state;
  distance : l.self.spread ≡ l.fn.self.spread;
  keeps : KeepsRuns l.fn.self l.self;
  told : (level : Level) → level_if l.fn.self.line.edges.high ≡ other (after level (take l.fn.count l.fn.self.runs))
      → (level_if l.high ≡ other (after level (take l.i l.fn.self.runs)))
      × RunsTold g.T.Sink.taken l.fn.self l.self l.fn.sink l.sink level (take l.i l.fn.self.runs);
}
