use Rattle.std.proofs.Common.{ℕ, ◌<◌, ◌≤◌, ◌≡◌, ◌%◌, ◌*◌, get_or, length}
use Rattle.aes3_capture_recovery.specs.declared.period.Side.TheVariants.{Of}
use Rattle.aes3_capture_recovery.proofs.period.likeliest.Given as goal

abbrev pub invariant-loop-i : goal.invariant-loop-i
invariant-loop-i l = record {
  within : l.found < length l.runs;
  most : (s i : ℕ) → l.fn.side ≡ Of s → l.fn.begin ≤ i → i < l.i → i % 2 ≡ s → 3 * get_or l.runs i 0 ≤ 2 * l.fn.longest
      → get_or l.runs i 0 ≤ l.best;
  is : (s : ℕ) → l.fn.side ≡ Of s → 0 < l.best
      → (l.fn.begin ≤ l.found) × (l.found < l.i) × (l.found % 2 ≡ s) × (l.best ≡ get_or l.runs l.found 0);
}
