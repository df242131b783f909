use Rattle.std.proofs.Common.{arith}
use Rattle.aes3_info.proofs.CountedGaps.{full-facts}
use Rattle.aes3_info.proofs.gaps.GapFacts.full.Goals as goal

pub returns : goal.returns
returns c =
    let t = c.ranges.to.fits in
    let e = c.saturating_sub-full.ensures in
    full-facts c.args.from c.args.to c.saturating_sub-full.result e (omega arith)
