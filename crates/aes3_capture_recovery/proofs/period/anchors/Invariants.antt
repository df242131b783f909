use Rattle.std.proofs.Common.{ℕ, List, ◌<◌, ◌≤◌, ◌≡◌, ◌-◌, ◌*◌, get_or, length}
use Rattle.aes3_capture.specs.declared.follower.Bounds.{Bounds}
use Rattle.aes3_capture_recovery.specs.Finding.{AreCapturedRuns, IsSix}
use Rattle.aes3_capture_recovery.specs.declared.period.Anchor.{Anchor}
use Rattle.aes3_capture_recovery.specs.declared.period.Side.TheVariants.{Of}
use Rattle.aes3_capture_recovery.proofs.Firsts.{AreSoFar}
use Rattle.aes3_capture_recovery.proofs.period.anchors.Given as goal

abbrev pub invariant-loop-g : goal.invariant-loop-g
invariant-loop-g l = record {
  long : length l.found ≡ 4;
  each : (i : ℕ) (other : Anchor) → i < l.g → (get_or l.found i other).run < length l.runs;
  few : l.before.subframes ≤ l.g * 281474976710656;
  so_far : (narrow : Bounds) (spread late later place s : ℕ) (places line : List ℕ) (other : Anchor)
      → AreCapturedRuns narrow spread late later place s places line l.runs → IsSix narrow spread l.fn.longest → l.fn.side ≡ Of s
      → AreSoFar place line l.runs l.g l.before (get_or l.found 0 other) (get_or l.found (l.g - 1) other);
}
