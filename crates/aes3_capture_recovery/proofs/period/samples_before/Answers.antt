use Rattle.std.proofs.Common.{arith}
use Rattle.aes3_capture.proofs.Telescope.{sum-next}
use Rattle.aes3_capture_recovery.proofs.period.samples_before.Goals as goal

pub loop-i-preserved : goal.loop-i-preserved
loop-i-preserved c =
    let v = c.loop-i.invariant in
    let below = c.loop-i-test.true in
    let within = c.requires.within in
    let next = sum-next c.args.runs.now c.loop-i.i (omega (arith, below, within)) in
    let is = c.from-samples.ensures in
    let fits = c.from-samples.type_inv in
    let bound = v.bound in
    let value = v.value in
    record { bound = omega (arith, bound, is, fits); value = omega (arith, next, value, is) }
