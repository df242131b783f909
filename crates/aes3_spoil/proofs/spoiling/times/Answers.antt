use Rattle.std.proofs.Common.{arith}
use Rattle.aes3_spoil.proofs.SpoiledCells.{times-none, times-twice, times-once}
use Rattle.aes3_spoil.proofs.spoiling.times.Goals as goal

pub returns-then-count-gt0-clause-times : goal.returns-then-count-gt0-clause-times
returns-then-count-gt0-clause-times c =
    let e = c.count.ensures in
    let h = c.if-count-gt0.true in
    times-none c.args.errors.now c.args.place (omega (arith, e, h))

pub returns-then-count-gt0-2-clause-times : goal.returns-then-count-gt0-2-clause-times
returns-then-count-gt0-2-clause-times c =
    let e = c.count.ensures in
    let h = c.if-count-gt0.false in
    let f = c.count-else-count-gt0.ensures in
    let k = c.if-count-gt0-2.true in
    times-twice c.args.errors.now c.args.place (omega (arith, e, h)) (omega (arith, f, k))

pub returns-else-count-gt0-2-clause-times : goal.returns-else-count-gt0-2-clause-times
returns-else-count-gt0-2-clause-times c =
    let e = c.count.ensures in
    let h = c.if-count-gt0.false in
    let f = c.count-else-count-gt0.ensures in
    let k = c.if-count-gt0-2.false in
    times-once c.args.errors.now c.args.place (omega (arith, e, h)) (omega (arith, f, k))
