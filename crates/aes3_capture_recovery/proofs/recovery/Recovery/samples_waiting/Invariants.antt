use Rattle.std.proofs.Common.{◌≡◌, ◌≤◌, ◌*◌, ◌^◌, take}
use Rattle.aes3_capture_recovery.specs.Recovering.{samples_of}
use Rattle.aes3_capture_recovery.proofs.recovery.Recovery.samples_waiting.Given as goal

abbrev pub invariant-loop-i : goal.invariant-loop-i
invariant-loop-i l = record {
  sum : l.samples ≡ samples_of (take l.i l.self.runs);
  few : l.samples ≤ l.i * 2 ^ 32;
}
