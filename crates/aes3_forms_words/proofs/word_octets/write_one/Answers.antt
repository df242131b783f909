use Rattle.std.proofs.Common.{◌∙◌}
use Rattle.aes3_forms_words.specs.Forms.{written_word}
use Rattle.aes3_forms_words.proofs.EachWord.{one-word}
use Rattle.aes3_forms_words.proofs.word_octets.write_one.Goals as goal

pub returns : goal.returns
returns c =
    c.copy_from_slice.ensures.after ∙ c.written_word-word.ensures
    ∙ one-word (written_word c.args.form) c.args.place c.args.octets.now c.requires
