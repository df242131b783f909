use Rattle.std.proofs.Common.{ℕ, List, ◌<◌, ◌≤◌, ◌≡◌, ◌+◌, ◌-◌, ◌*◌, ◌/◌, get_or, length}
use Rattle.aes3_capture_recovery.specs.Finding.{long_pairs, pair_at}
use Rattle.aes3_capture_recovery.proofs.period.are_likely.Given as goal

abbrev pub invariant-loop-i : goal.invariant-loop-i
invariant-loop-i l = record {
  some : l.short ≤ l.i;
  many : l.long ≤ l.i;
  within : 1 < l.i → l.i ≤ length l.runs;
  none : ((i : ℕ) → i + 1 < length l.runs → l.fn.longest ≤ 4 * pair_at l.runs i) → l.short ≡ 0;
  few : (line : List ℕ) → ((i : ℕ) → i + 1 < length l.runs → get_or line i 0 + get_or line (i + 1) 0 ≤ 4
      → pair_at l.runs i ≤ l.fn.longest - l.fn.longest / 5) → l.long ≤ long_pairs line (l.i - 1);
}
