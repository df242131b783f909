use Rattle.std.proofs.Common.{◌-◌, ◌≤◌, replicate}
use Rattle.std.specs.Io.KnownBytes.{Keeps}
use Rattle.aes3_cell.specs.Attempts.{Met, tries}
use Rattle.aes3_cell.specs.declared.attempts.Trouble.TheVariants.{Interrupted}
use Rattle.aes3_cell.proofs.attempts.read_again.Given as goal

abbrev pub invariant-loop-interrupted : goal.invariant-loop-interrupted
invariant-loop-interrupted g l = record {
  within : l.interrupted ≤ tries;
  keeps : Keeps (g.R.Reader.left l.fn.reader) (g.R.Reader.left l.reader);
  met : Met (g.R.Reader.met l.fn.reader) (g.R.Reader.met l.reader) (replicate l.interrupted Interrupted);
}

abbrev pub decreases-loop-interrupted : goal.decreases-loop-interrupted
decreases-loop-interrupted g l = tries - l.interrupted
