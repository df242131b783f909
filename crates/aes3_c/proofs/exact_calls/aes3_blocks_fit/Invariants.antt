use Rattle.std.proofs.Common.{◌≡◌, ◌<◌, ℕ, true}
use Rattle.aes3_c.specs.Blocks.{sample_form, word_in}
use Rattle.aes3_c.specs.Exact.{word_fits}
use Rattle.aes3_c.proofs.exact_calls.aes3_blocks_fit.Given as goal

abbrev pub invariant-loop-i : goal.invariant-loop-i
invariant-loop-i l = record {
  before : (j : ℕ) → j < l.i → word_fits (sample_form l.form) (word_in l.words j) ≡ true;
}
