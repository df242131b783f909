use Rattle.aes3_capture_recovery.proofs.SameLevels.{low-same, low-next, high-same, high-next}
use Rattle.std.proofs.Common.{arith}
use Rattle.aes3_capture_recovery.proofs.edges.equal_levels.Goals as goal

pub returns-then-high-clause-equal : goal.returns-then-high-clause-equal
returns-then-high-clause-equal c = λ n h.
    rw c.if-high.true (high-same c.args.levels n (omega arith) h)

pub returns-then-high-clause-next : goal.returns-then-high-clause-next
returns-then-high-clause-next c = λ h. rw c.if-high.true (high-next c.args.levels (omega arith) h)

pub returns-else-high-clause-equal : goal.returns-else-high-clause-equal
returns-else-high-clause-equal c = λ n h. rw c.if-high.false (low-same c.args.levels n (omega arith) h)

pub returns-else-high-clause-next : goal.returns-else-high-clause-next
returns-else-high-clause-next c = λ h. rw c.if-high.false (low-next c.args.levels (omega arith) h)
