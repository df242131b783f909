use Rattle.std.proofs.Common.{◌≡◌, take}
use Rattle.aes3_capture_recovery.specs.Distances.{spread_after}
use Rattle.aes3_capture_recovery.proofs.edges.spread_behind.Given as goal

abbrev pub invariant-loop-i : goal.invariant-loop-i
invariant-loop-i l = record {
  mean : l.behind ≡ spread_after l.fn.spread (take l.i l.fn.distances.each);
}
