use Rattle.std.proofs.Common.{◌∙◌, rules}
use Rattle.aes3_forms_words.specs.Forms.{own_word}
use Rattle.aes3_forms_words.proofs.EachWord.{one-word}
use Rattle.aes3_forms_words.proofs.alsa_am824.Words.read_word.Goals as goal

pub returns : goal.returns
returns c = c.own_word.ensures ∙ one-word (own_word c.args.self) c.args.place c.args.word (search rules)
