use Rattle.std.proofs.Common.{◌≡◌, ◌*◌, ◌<◌, ℕ, drop, length, take, true}
use Rattle.std.specs.List.{flat_map}
use Rattle.aes3_forms_words.specs.Forms.{own_word}
use Rattle.aes3_forms_words.specs.Lists.{each_word}
use Rattle.aes3_frame.specs.Files.{is_lawful, word_bytes}
use Rattle.aes3_c.specs.Blocks.{word_read, words_form}
use Rattle.aes3_c.proofs.subframes.aes3_blocks_of_subframes.Given as goal

abbrev pub invariant-loop-i : goal.invariant-loop-i
invariant-loop-i l = record {
  len : length l.words ≡ length l.fn.words;
  right : (k : ℕ) → k < 384 * l.i → is_lawful (word_read (words_form l.form) l.octets k) ≡ true;
  words : flat_map word_bytes (take (384 * l.i) l.words) ≡ each_word (own_word (words_form l.form)) 0 (take (1536 * l.i) l.octets);
  others : drop (384 * l.i) l.words ≡ drop (384 * l.i) l.fn.words;
}
