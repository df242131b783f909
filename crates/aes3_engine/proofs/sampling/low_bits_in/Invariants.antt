use Rattle.std.proofs.Common.{◌≡◌, ℕ, ◌+◌, ◌<◌, ◌%◌, get_or}
use Rattle.aes3_engine.proofs.sampling.low_bits_in.Given as goal

abbrev pub invariant-loop-i : goal.invariant-loop-i
invariant-loop-i l = record { clear : (j : ℕ) → j < l.i → (l.at + j) % 4 ≡ 0 → get_or l.piece j 0 ≡ 0 }
