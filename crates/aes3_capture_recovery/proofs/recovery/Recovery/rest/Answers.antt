use Rattle.std.proofs.Common.{arith}
use Rattle.aes3_capture_recovery.proofs.Followed.{none-told}
use Rattle.aes3_capture_recovery.proofs.States.{apart}
use Rattle.aes3_capture_recovery.proofs.recovery.Recovery.rest.Goals as goal

pub returns-then-from-period-clause-told : goal.returns-then-from-period-clause-told
returns-then-from-period-clause-told g c = λ follows.
    none-told c.args.self.now.line c.args.sink.now tt
    (omega (arith, c.if-from-period.true, c.from.ensures, c.waiting.ensures, c.period.ensures.most))

pub returns-clause-state : goal.returns-clause-state
returns-clause-state g c = λ follows. absurd (apart c.still.new.self.state c.still.ensures.state follows)

pub returns-clause-told : goal.returns-clause-told
returns-clause-told g c = λ follows. absurd (apart c.still.new.self.state c.still.ensures.state follows)

pub returns-clause-alive : goal.returns-clause-alive
returns-clause-alive g c = λ none short.
    absurd (omega (arith, c.if-from-period.false, c.from.ensures, c.waiting.ensures, c.period.ensures.any none, short))

pub returns-clause-near : goal.returns-clause-near
returns-clause-near g c = λ near.
    absurd (omega (arith, c.if-from-period.false, c.from.ensures, c.waiting.ensures, c.period.ensures.least, near))

pub returns-clause-awake : goal.returns-clause-awake
returns-clause-awake g c = λ alive.
    absurd (omega (arith, c.if-from-period.false, c.from.ensures, c.waiting.ensures, c.period.ensures.cell, alive))
