use Rattle.aes3_capture.proofs.Leaping.{AreSteps}
use Rattle.aes3_capture.proofs.follower.Leap.make.Given as goal

abbrev pub invariant-loop-i : goal.invariant-loop-i
invariant-loop-i l = AreSteps l.fn.middle l.runs l.cells l.self.places l.self.sames l.self.others l.self.periods
    l.fn.same l.fn.other l.fn.period l.i l.same l.other l.period
