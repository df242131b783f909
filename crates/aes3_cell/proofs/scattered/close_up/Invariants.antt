use Rattle.aes3_cell.proofs.ClosedGaps.{Closing}
use Rattle.aes3_cell.proofs.scattered.close_up.Given as goal

abbrev pub invariant-loop-gaps : goal.invariant-loop-gaps
invariant-loop-gaps l = Closing l.kept l.levels l.gaps l.word l.len

abbrev pub decreases-loop-gaps : goal.decreases-loop-gaps
decreases-loop-gaps l = l.gaps
