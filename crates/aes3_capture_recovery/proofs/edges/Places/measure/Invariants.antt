use Rattle.std.proofs.Common.{ℕ, List, ◌≡◌, ◌+◌, ◌∷◌, take}
use Rattle.aes3_capture_recovery.specs.Turns.{gaps}
use Rattle.aes3_capture_recovery.proofs.edges.Places.measure.Given as goal

abbrev pub invariant-loop-i : goal.invariant-loop-i
invariant-loop-i l = (l.self.places ≡ l.fn.self.places)
    × ((first : ℕ) (more : List ℕ) → take (l.count + 1) l.fn.self.places ≡ first ∷ more
    → take l.i l.self.runs ≡ gaps first (take l.i more))
