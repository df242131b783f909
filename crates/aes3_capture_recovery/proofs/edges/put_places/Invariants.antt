use Rattle.std.proofs.Common.{◌≡◌, ◌+◌, ◌-◌, ◌%◌, ◌≤◌, ◌++◌, length, take}
use Rattle.aes3_capture_recovery.specs.Turns.{Put, set_bits}
use Rattle.aes3_capture_recovery.proofs.edges.put_places.Given as goal

abbrev pub invariant-loop-at : goal.invariant-loop-at
invariant-loop-at l = Put (take l.from l.fn.places ++ set_bits 64 l.base l.bits) l.base l.places (l.from + l.at) l.rest
    × (l.at % 2 ≡ 0) × (l.at ≤ 66) × (length l.places ≡ length l.fn.places)

abbrev pub decreases-loop-at : goal.decreases-loop-at
decreases-loop-at l = 66 - l.at
