use Rattle.std.proofs.Common.{ℕ, ◌≡◌, ◌<◌, ◌+◌, ◌*◌, get_or, length}
use Rattle.std.specs.Int.{bit_at}
use Rattle.aes3_capture_recovery.proofs.edges.levels_of_pairs_at.Given as goal

abbrev pub invariant-loop-j : goal.invariant-loop-j
invariant-loop-j l = record {
  long : length l.levels ≡ 64;
  each : (k : ℕ) → k < l.j → get_or l.levels k 0
      ≡ bit_at (get_or l.block (l.fn.at + 2 * k) 0 + 256 * get_or l.block (l.fn.at + 2 * k + 1) 0) l.fn.bit;
}
