use Rattle.std.proofs.Common.{ℕ, ◌≡◌, ◌<◌, get_or, length}
use Rattle.aes3_capture_recovery.specs.Levels.{IsWord}
use Rattle.aes3_capture_recovery.proofs.edges.words_of.Given as goal

abbrev pub invariant-loop-i : goal.invariant-loop-i
invariant-loop-i l = record {
  long : length l.words ≡ 64;
  each : (i : ℕ) → i < l.i → IsWord l.fn.unit l.fn.block i (get_or l.words i 0);
}
