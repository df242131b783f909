use Rattle.std.proofs.Common.{◌≡◌, ℕ, ◌-◌, ◌<◌, ◌^◌, ◌++◌, get_or, length, take}
use Rattle.aes3_level.specs.Words.{word_cells}
use Rattle.aes3_lock.specs.Eights.{begun_before}
use Rattle.aes3_lock.proofs.begun_subframe.complete_eight.Given as goal

abbrev pub invariant-loop-i : goal.invariant-loop-i
invariant-loop-i l = record {
  len : length l.subframes ≡ 8;
  told : l.begun < 2 ^ l.len → (j : ℕ) → j < l.i
      → word_cells (get_or l.subframes j 0) ≡ begun_before l.len l.begun l.words j ++ take (64 - l.len)
      (word_cells (get_or l.words j 0));
}
