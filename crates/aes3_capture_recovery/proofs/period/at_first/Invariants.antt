use Rattle.std.proofs.Common.{◌≡◌, ◌+◌, ◌-◌, ℕ, List, get_or}
use Rattle.aes3_capture.specs.declared.follower.Bounds.{Bounds}
use Rattle.aes3_capture.specs.Directions.{IsBehind}
use Rattle.aes3_capture_recovery.specs.Finding.{AreOfALine}
use Rattle.aes3_capture_recovery.proofs.period.at_first.Given as goal

abbrev pub invariant-loop-i : goal.invariant-loop-i
invariant-loop-i l = record {
  bounds_is : l.follower.bounds ≡ l.fn.bounds;
  behind : (narrow : Bounds) (spread late later : ℕ) (places cells : List ℕ)
      → AreOfALine narrow l.fn.bounds spread late later places cells l.fn.runs → get_or cells l.fn.anchor 0 ≡ 3
      → IsBehind l.follower spread late later (late + later + spread) places (l.fn.anchor + 1 - l.i);
}
