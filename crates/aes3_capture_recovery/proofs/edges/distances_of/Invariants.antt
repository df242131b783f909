use Rattle.std.proofs.Common.{◌≡◌, ◌≤◌, ◌*◌, ◌^◌, length, map, take}
use Rattle.aes3_capture_recovery.specs.Distances.{distance_at, greatest, squares, total}
use Rattle.aes3_capture_recovery.proofs.edges.distances_of.Given as goal

abbrev pub invariant-loop-i : goal.invariant-loop-i
invariant-loop-i l = record {
  long : length l.each ≡ 32;
  each : take l.i l.each ≡ map (distance_at l.middle) (take l.i l.places);
  greatest : l.greatest ≡ greatest (map (distance_at l.middle) (take l.i l.places));
  sum : l.sum ≡ total (map (distance_at l.middle) (take l.i l.places));
  squares : l.squares ≡ squares (map (distance_at l.middle) (take l.i l.places));
  few : l.sum ≤ l.i * 2 ^ 25;
  slim : l.squares ≤ l.i * 2 ^ 50;
}
