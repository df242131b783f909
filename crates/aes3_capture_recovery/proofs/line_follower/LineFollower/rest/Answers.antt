use Rattle.std.proofs.Common.{arith}
use Rattle.aes3_capture_recovery.proofs.Followed.{none-told}
use Rattle.aes3_capture_recovery.proofs.line_follower.LineFollower.rest.Goals as goal

pub returns-then-from-period-clause-told : goal.returns-then-from-period-clause-told
returns-then-from-period-clause-told g c =
    let f = c.args.self.now.follower in
    let longest = f.longest in
    none-told c.args.self.now c.args.sink.now tt
    (omega (arith, c.if-from-period.true, c.from.ensures, c.waiting.ensures, c.period.ensures, longest, f.bounds))
