use Rattle.std.proofs.Common.{arith}
use Rattle.aes3_info.proofs.CountedGaps.{counting-facts, cut-facts}
use Rattle.aes3_info.proofs.gaps.GapFacts.all.Goals as goal

pub returns-then-counts : goal.returns-then-counts
returns-then-counts c =
    let e = c.saturating_sub-cells.ensures in
    rw (c.if-counts.true, c.min.ensures)
    (counting-facts c.args.from c.args.to c.saturating_sub-cells.result e (omega arith))

pub returns-else-counts : goal.returns-else-counts
returns-else-counts c =
    let e = c.saturating_sub-cells.ensures in
    rw c.if-counts.false (cut-facts c.args.from c.args.to c.saturating_sub-cells.result e (omega arith))
