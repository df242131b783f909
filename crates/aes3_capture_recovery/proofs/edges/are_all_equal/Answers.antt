use Rattle.std.proofs.Common.{arith}
use Rattle.aes3_capture_recovery.specs.Endings.{level_if}
use Rattle.aes3_capture_recovery.proofs.StillWords.{words-same}
use Rattle.aes3_capture_recovery.proofs.edges.are_all_equal.Goals as goal

pub loop-i-preserved : goal.loop-i-preserved
loop-i-preserved c =
    words-same (level_if c.args.high) c.args.words.now c.loop-i.i c.loop-i-test.true c.loop-i.invariant
    (c.equal_levels.ensures.equal 64 (omega (arith, c.if-equal_levels-lt64.false)))
