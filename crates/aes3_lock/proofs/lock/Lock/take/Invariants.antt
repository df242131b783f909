use Rattle.std.proofs.Common.{None, length}
use Rattle.aes3_level.specs.Remaining.{all_of}
use Rattle.aes3_lock.specs.Taking.{TookCells}
use Rattle.aes3_lock.proofs.lock.Lock.take.Given as goal

abbrev pub invariant-loop-self : goal.invariant-loop-self
invariant-loop-self l = record {
  took : TookCells l.fn.self l.self (all_of l.fn.cells) (all_of l.cells) None;
}

abbrev pub decreases-loop-self : goal.decreases-loop-self
decreases-loop-self l = length (all_of l.cells)
