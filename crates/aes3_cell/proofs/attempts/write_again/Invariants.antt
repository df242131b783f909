use Rattle.std.proofs.Common.{◌-◌, ◌≤◌, replicate}
use Rattle.std.specs.Io.KnownBytes.{Keeps}
use Rattle.aes3_cell.specs.Attempts.{Met, tries}
use Rattle.aes3_cell.specs.declared.attempts.Trouble.TheVariants.{Interrupted}
use Rattle.aes3_cell.proofs.attempts.write_again.Given as goal

abbrev pub invariant-loop-interrupted : goal.invariant-loop-interrupted
invariant-loop-interrupted g l = record {
  within : l.interrupted ≤ tries;
  keeps : Keeps (g.W.Writer.held l.fn.writer) (g.W.Writer.held l.writer);
  met : Met (g.W.Writer.met l.fn.writer) (g.W.Writer.met l.writer) (replicate l.interrupted Interrupted);
}

abbrev pub decreases-loop-interrupted : goal.decreases-loop-interrupted
decreases-loop-interrupted g l = tries - l.interrupted
