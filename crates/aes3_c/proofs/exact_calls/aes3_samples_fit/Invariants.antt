use Rattle.std.proofs.Common.{◌≡◌, ◌*◌, ◌<◌, ◌%◌, ℕ, get_or}
use Rattle.aes3_c.proofs.exact_calls.aes3_samples_fit.Given as goal

abbrev pub invariant-loop-i : goal.invariant-loop-i
invariant-loop-i l = record {
  clear : (j : ℕ) → j < 4 * l.i → j % 4 ≡ 0 → get_or l.octets j 0 ≡ 0;
}
