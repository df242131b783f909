use Rattle.std.proofs.Common.{ℕ, List, ◌≡◌, take, drop}
use Rattle.aes3_capture.specs.Captures.{Captures}
use Rattle.aes3_capture.specs.Following.{Follows}
use Rattle.aes3_capture.proofs.Counts.{Left}
use Rattle.aes3_capture.proofs.count.count_cells_behind.Given as goal

abbrev pub invariant-loop-i : goal.invariant-loop-i
invariant-loop-i l = (l.follower.bounds ≡ l.fn.follower.bounds)
    × ((counts : List ℕ) (same other displaced : ℕ) → Follows l.fn.follower same other displaced 0 0
    → Captures l.fn.follower.bounds same other displaced counts l.runs
    → Left l.follower l.fn.follower.bounds (take l.i l.cells) counts (drop l.i l.runs))
