use Rattle.std.proofs.Common.{◌≡◌, ◌≤◌, ◌*◌, ◌^◌, length, take}
use Rattle.aes3_capture_recovery.proofs.SmallDistances.{AreSmall}
use Rattle.aes3_capture_recovery.proofs.edges.small_distances.Given as goal

abbrev pub invariant-loop-i : goal.invariant-loop-i
invariant-loop-i l = record {
  long : length l.each ≡ 32;
  few : l.sum ≤ l.i * 2 ^ 25;
  small : l.greatest ≤ 8191 → AreSmall l.middle (take l.i l.places) (take l.i l.each) l.i l.greatest l.sum l.squares;
}
