use Rattle.std.proofs.Common.{ℕ, List, ◌≡◌}
use Rattle.aes3_capture.specs.declared.follower.Bounds.{Bounds}
use Rattle.aes3_capture_recovery.specs.Finding.{AllowsCells, AreCapturedRuns, IsSix}
use Rattle.aes3_capture_recovery.specs.declared.period.Side.TheVariants.{Of}
use Rattle.aes3_capture_recovery.proofs.period.by_pair.Given as goal

abbrev pub invariant-loop-k : goal.invariant-loop-k
invariant-loop-k l = (narrow : Bounds) (spread late later place s : ℕ) (places line : List ℕ)
    → AreCapturedRuns narrow spread late later place s places line l.runs → IsSix narrow spread l.fn.longest → l.fn.side ≡ Of s
    → AllowsCells l.fn.known narrow → l.k ≡ 0
