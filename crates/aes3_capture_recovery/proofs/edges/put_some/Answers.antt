use Rattle.std.proofs.Common.{◌∙◌, ◌+◌, arith}
use Rattle.std.proofs.lemmas.List.{length-set}
use Rattle.aes3_capture_recovery.proofs.SetBits.{put-one}
use Rattle.aes3_capture_recovery.proofs.edges.put_some.Goals as goal

pub loop-i-preserved : goal.loop-i-preserved
loop-i-preserved c =
    let room = c.requires.room in
    let below = c.loop-i-test.true in
    let long = c.loop-i.invariant.0 in
    let end = c.loop-i.auto.i-end in
    let fits = c.loop-i.auto.rest-fits in (
      length-set c.loop-i.places (c.args.at + c.loop-i.i) _ ∙ long,
      λ wanted w. put-one wanted c.args.base c.loop-i.places (c.args.at + c.loop-i.i) (c.args.at + (c.loop-i.i + 1))
          c.loop-i.rest (omega arith) (omega (arith, room, below, long, end)) (omega (arith, fits))
          (c.loop-i.invariant.1 wanted w),
    )
