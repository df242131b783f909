use Rattle.std.proofs.Common.{List, ℕ, ◌≡◌, ◌+◌, length}
use Rattle.aes3_capture_recovery.specs.Turns.{Put}
use Rattle.aes3_capture_recovery.proofs.edges.put_some.Given as goal

abbrev pub invariant-loop-i : goal.invariant-loop-i
invariant-loop-i l = (length l.places ≡ length l.fn.places)
    × ((wanted : List ℕ) → Put wanted l.base l.fn.places l.at l.bits → Put wanted l.base l.places (l.at + l.i) l.rest)
