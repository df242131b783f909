use Rattle.std.proofs.Common.{◌≡◌, ◌+◌, ◌*◌, ◌/◌, ◌≤◌, ◌^◌, ◌∙◌, ap₂, arith, get_or}
use Rattle.std.proofs.lemmas.List.{length-set}
use Rattle.aes3_capture_recovery.specs.Distances.{distance_at}
use Rattle.aes3_capture_recovery.proofs.DistanceSums.{all-more, each-more, square-small}
use Rattle.aes3_capture_recovery.proofs.edges.distances_of.Goals as goal

pub loop-i-preserved : goal.loop-i-preserved
loop-i-preserved c =
    let v = c.loop-i.invariant in
    let below = c.loop-i-test.true in
    let few = c.requires.few in
    let fits = c.abs_diff-left.type_inv in
    let left = c.abs_diff-left.ensures in
    let distance = c.abs_diff-left.result / 256 + c.abs_diff-left.result / 256 / 15 in
    let is : distance ≡ distance_at c.args.middle (get_or c.args.places.now c.loop-i.i 0) = omega (arith, left) in
    let all = all-more c.args.middle c.args.places.now c.loop-i.i distance (omega (arith, below, few)) is in
    let some : distance ≤ 2 ^ 25 = omega (arith, fits) in
    let square = square-small distance some in
    let product : c.from.result * c.from-in-loop-i.result ≡ distance * distance
    = ap₂ (λ a b. a * b) c.from.ensures c.from-in-loop-i.ensures in
    let most = c.max-greatest.ensures in
    let long = v.long in
    record {
      long = length-set c.loop-i.each c.loop-i.i distance ∙ long;
      each = each-more c.args.middle c.args.places.now c.loop-i.each c.loop-i.i distance
          (omega (arith, below, few)) (omega (arith, below, few, long)) is v.each;
      greatest = let g = all.0 in omega (arith, g, v, most);
      sum = let s = all.1 in omega (arith, s, v);
      squares = let s = all.2 in omega (arith, s, v, product);
      few = omega (arith, v, some);
      slim = omega (arith, v, square, product);
    }
