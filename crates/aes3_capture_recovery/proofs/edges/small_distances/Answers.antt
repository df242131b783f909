use Rattle.std.proofs.Common.{◌/◌, ◌∙◌, arith}
use Rattle.std.proofs.lemmas.List.{length-set}
use Rattle.aes3_capture_recovery.proofs.SmallDistances.{all-small, small-more}
use Rattle.aes3_capture_recovery.proofs.edges.small_distances.Goals as goal

pub loop-i-preserved : goal.loop-i-preserved
loop-i-preserved c =
    let v = c.loop-i.invariant in
    let below = c.loop-i-test.true in
    let few = v.few in
    let long = v.long in
    let fits = c.abs_diff-left.type_inv in
    let gap = c.abs_diff-left.ensures in
    let most_is = c.max-greatest.ensures in
    record {
      long = length-set c.loop-i.each c.loop-i.i _ ∙ long;
      few = omega (arith, few, fits);
      small = λ most. small-more c.args.middle c.args.places.now c.loop-i.each c.loop-i.i (c.abs_diff-left.result / 256) _
          c.loop-i.greatest c.loop-i.sum c.loop-i.squares c.max-greatest.result _ _ (omega (arith, below)) (omega arith) long
          (omega (arith, gap)) (omega arith) (omega (arith, most, most_is)) (v.small (omega (arith, most, most_is)))
          (omega (arith, most_is)) (omega arith) (omega arith);
    }

pub returns : goal.returns
returns c few =
    let last = c.loop-i-test.false in
    let end = c.loop-i.auto.i-end in
    all-small c.args.middle c.args.places.now c.loop-i.each c.loop-i.i c.loop-i.greatest c.loop-i.sum c.loop-i.squares
    c.from.result (omega (arith, last, end)) c.from.ensures (c.loop-i.invariant.small few)
