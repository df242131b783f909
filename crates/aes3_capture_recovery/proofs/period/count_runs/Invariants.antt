use Rattle.std.proofs.Common.{◌≡◌, ◌≤◌, ℕ, List, take}
use Rattle.aes3_capture.specs.declared.follower.Bounds.{Bounds}
use Rattle.aes3_capture.specs.Directions.{IsAt}
use Rattle.aes3_capture.specs.Following.{CountedAll}
use Rattle.aes3_capture_recovery.specs.Finding.{AreOfALine}
use Rattle.aes3_capture_recovery.specs.Measuring.{runs_of_a_line}
use Rattle.aes3_capture_recovery.proofs.period.count_runs.Given as goal

abbrev pub invariant-loop-i : goal.invariant-loop-i
invariant-loop-i l = record {
  counted : CountedAll l.fn.follower (take l.i l.runs) (take l.i l.cells) l.follower;
  steady : l.steady ≡ runs_of_a_line (take l.i l.cells);
  few : l.steady ≤ l.i;
  quiet : l.follower.elapsed ≡ 0;
  bounds_is : l.follower.bounds ≡ l.fn.follower.bounds;
  line : (narrow : Bounds) (spread late later : ℕ) (places line : List ℕ)
      → AreOfALine narrow l.fn.follower.bounds spread late later places line l.runs → IsAt l.fn.follower spread late later places 0
      → (l.steady ≡ l.i) × (take l.i l.cells ≡ take l.i line) × IsAt l.follower spread late later places l.i;
}
