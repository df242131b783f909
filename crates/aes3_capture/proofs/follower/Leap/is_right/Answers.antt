use Rattle.std.proofs.Common.{arith}
use Rattle.aes3_capture.proofs.Leaping.{bounded-more}
use Rattle.aes3_capture.proofs.follower.Leap.is_right.Goals as goal

pub loop-i-preserved : goal.loop-i-preserved
loop-i-preserved c =
    bounded-more c.args.low _ _ _ _ _ _ c.loop-i.i _ _ _ _ _ _ _ _ _ _ _ _ c.loop-i.invariant
    (omega arith) (omega arith) (omega arith) (omega arith) (omega arith) (omega arith) (record {
      run_is = omega arith;
      cells_is = omega arith;
      place_is = omega arith;
      time_is = omega arith;
      apart_is = omega arith;
      period_is = omega arith;
    })
