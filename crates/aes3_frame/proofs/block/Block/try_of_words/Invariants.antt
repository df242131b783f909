use Rattle.std.proofs.Common.{◌≡◌, ◌<◌, ℕ, true, get_or}
use Rattle.aes3_frame.specs.Files.{is_lawful}
use Rattle.aes3_frame.proofs.block.Block.try_of_words.Given as goal

abbrev pub invariant-loop-i : goal.invariant-loop-i
invariant-loop-i l = (k : ℕ) → k < l.i → is_lawful (get_or l.words k 0) ≡ true
