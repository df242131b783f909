use Rattle.std.proofs.Common.{ap, arith}
use Rattle.aes3_engine.specs.Filling.{block_frames, frames_between}
use Rattle.aes3_c.proofs.frame_calls.aes3_frames_between.Goals as goal

pub returns : goal.returns
unfolding block_frames
returns c = λ x y before at.
    let one = ap (frames_between c.args.first) before in
    let two = ap (frames_between c.args.first) at in
    omega (arith, one, two)
