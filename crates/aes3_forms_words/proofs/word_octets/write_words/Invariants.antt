use Rattle.std.proofs.Common.{◌≡◌, ◌*◌, ◌++◌, take, drop}
use Rattle.aes3_forms_words.specs.Forms.{written_word}
use Rattle.aes3_forms_words.specs.Lists.{each_word}
use Rattle.aes3_forms_words.proofs.word_octets.write_words.Given as goal

abbrev pub invariant-loop-i : goal.invariant-loop-i
invariant-loop-i l =
    l.octets ≡ each_word (written_word l.form) 0 (take (4 * l.i) l.fn.octets) ++ drop (4 * l.i) l.fn.octets
