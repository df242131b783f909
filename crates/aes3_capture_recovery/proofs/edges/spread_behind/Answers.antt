use Rattle.std.proofs.Common.{arith, take}
use Rattle.aes3_capture_recovery.proofs.DistanceSums.{spread-most, spread-next, total-part}
use Rattle.aes3_capture_recovery.proofs.edges.spread_behind.Goals as goal

pub loop-i-preserved : goal.loop-i-preserved
loop-i-preserved c =
    let mean = c.loop-i.invariant.mean in
    let below = c.loop-i-test.true in
    let few = c.requires.few in
    let n = c.from.ensures in
    let next = spread-next c.args.spread c.args.distances.now.each c.loop-i.i c.args.count c.from.result below
    (let long = c.type_inv.distances in omega (arith, long, below, few)) c.requires.near n in
    record { mean = omega (arith, mean, next) }

pub returns-clause-most : goal.returns-clause-most
returns-clause-most c =
    let mean = c.loop-i.invariant.mean in
    let most = spread-most c.args.spread (take c.loop-i.i c.args.distances.now.each) in
    let part = total-part c.args.distances.now.each c.loop-i.i c.args.count (let e = c.loop-i.auto.i-end in omega (arith, e)) in
    let near = c.requires.near in
    omega (arith, mean, most, part, near)
