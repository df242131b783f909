use Rattle.std.proofs.Common.{◌≡◌, drop}
use Rattle.aes3_status.specs.Words.{rows_of, word_of}
use Rattle.aes3_status.proofs.status_text.word_of.Given as goal

abbrev pub invariant-loop-named : goal.invariant-loop-named
invariant-loop-named l = word_of (rows_of l.words) l.code ≡ word_of (rows_of (drop l.named-index l.words)) l.code
