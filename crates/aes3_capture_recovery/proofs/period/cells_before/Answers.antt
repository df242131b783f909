use Rattle.std.proofs.Common.{arith}
use Rattle.aes3_capture_recovery.proofs.Preambles.{place-next}
use Rattle.aes3_capture_recovery.proofs.period.cells_before.Goals as goal

pub loop-i-preserved : goal.loop-i-preserved
loop-i-preserved c =
    let below = c.loop-i-test.true in
    let within = c.requires.within in
    let told = c.told-cells in
    let v = c.loop-i.invariant.value in
    let next = place-next 0 c.args.cells.now c.loop-i.i c.from.result (omega (arith, below, within, told)) c.from.ensures in
    record { bound = omega arith; value = omega (arith, v, next) }
