use Rattle.std.proofs.Common.{◌≡◌, ◌≤◌, ◌*◌, take}
use Rattle.aes3_level.specs.declared.level.Level.{Level}
use Rattle.aes3_level.specs.Cells.{other}
use Rattle.aes3_capture_recovery.specs.Endings.{level_if}
use Rattle.aes3_capture_recovery.proofs.TurnedRuns.{AreTurned}
use Rattle.aes3_capture_recovery.proofs.queue.bits_of_runs.Given as goal

abbrev pub invariant-loop-i : goal.invariant-loop-i
invariant-loop-i l = record {
  turned : (before : Level) → level_if l.fn.high ≡ other before → AreTurned l.levels l.len before (take l.i l.runs);
  most : l.len ≤ 3 * l.i;
}
