use Rattle.std.proofs.Common.{take, ◌≤◌, ◌-◌}
use Rattle.aes3_capture.specs.Following.{Tracked}
use Rattle.aes3_capture.proofs.follower.Follower.track.Given as goal

abbrev pub invariant-loop-at : goal.invariant-loop-at
invariant-loop-at l = (l.at ≤ l.count)
    × Tracked l.fn.self (take l.at l.runs) (take l.at l.cells) (take l.at l.places) l.follower

abbrev pub decreases-loop-at : goal.decreases-loop-at
decreases-loop-at l = l.count - l.at

abbrev pub invariant-loop-i : goal.invariant-loop-i
invariant-loop-i l = Tracked l.fn.self (take l.i l.runs) (take l.i l.cells) (take l.i l.places) l.follower
