use Rattle.std.proofs.Common.{ℕ, ◌<◌, ◌≤◌, ◌≡◌}
use Rattle.aes3_capture_recovery.specs.Finding.{pair_at}
use Rattle.aes3_capture_recovery.proofs.period.longest_pair.Given as goal

abbrev pub invariant-loop-i : goal.invariant-loop-i
invariant-loop-i l = record {
  most : (j : ℕ) → l.fn.from ≤ j → j < l.i → pair_at l.runs j ≤ l.longest.samples;
  value : 0 < l.longest.samples → (l.longest.at < l.i) × (l.longest.samples ≡ pair_at l.runs l.longest.at);
}
