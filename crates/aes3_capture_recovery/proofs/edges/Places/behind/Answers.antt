use Rattle.std.proofs.Common.{arith}
use Rattle.aes3_capture_recovery.proofs.Turning.{last-at}
use Rattle.aes3_capture_recovery.proofs.edges.Places.behind.Goals as goal

pub returns : goal.returns
returns c = λ first more are.
    let few = c.requires.few in
    let last = last-at first c.args.count more c.args.self.now.places are (omega (arith, few)) in
    let e = c.saturating_sub.ensures in
    omega (arith, last, e)
