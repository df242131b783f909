use Rattle.std.proofs.Common.{◌<◌, ◌≡◌}
use Rattle.aes3_capture_recovery.specs.Measuring.{place_at}
use Rattle.aes3_capture_recovery.proofs.period.cells_before.Given as goal

abbrev pub invariant-loop-i : goal.invariant-loop-i
invariant-loop-i l = record {
  bound : l.place < 64;
  value : l.place ≡ place_at 0 l.cells l.i;
}
