use Rattle.aes3_capture.proofs.Leaping.{AreBounded}
use Rattle.aes3_capture.proofs.follower.Leap.is_right.Given as goal

abbrev pub invariant-loop-i : goal.invariant-loop-i
invariant-loop-i l = AreBounded l.fn.low l.fn.runs l.fn.cells l.fn.self.places l.fn.self.sames l.fn.self.others l.fn.self.periods
    l.i l.run l.most l.place l.time l.apart l.period
