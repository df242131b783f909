use Rattle.std.proofs.Common.{◌≡◌, ◌*◌, length, take}
use Rattle.std.specs.List.{flat_map}
use Rattle.aes3_forms_words.specs.Forms.{own_word}
use Rattle.aes3_forms_words.specs.Lists.{each_word}
use Rattle.aes3_frame.specs.Files.{word_bytes}
use Rattle.aes3_c.proofs.subframes.own_words.Given as goal

abbrev pub invariant-loop-slot : goal.invariant-loop-slot
invariant-loop-slot l = record {
  len : length l.own ≡ 384;
  read : flat_map word_bytes (take l.slot l.own) ≡ each_word (own_word l.form) 0 (take (4 * l.slot) l.octets);
}
