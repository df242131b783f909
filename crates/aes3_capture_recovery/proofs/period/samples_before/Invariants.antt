use Rattle.std.proofs.Common.{◌≤◌, ◌≡◌, ◌*◌}
use Rattle.aes3_capture.specs.Captures.{sum_to}
use Rattle.aes3_capture_recovery.proofs.period.samples_before.Given as goal

abbrev pub invariant-loop-i : goal.invariant-loop-i
invariant-loop-i l = record {
  bound : l.samples ≤ l.i * 4294967295;
  value : l.samples ≡ sum_to l.runs l.i;
}
