use Rattle.aes3_forms_words.proofs.ReadBack.{written-code}
use Rattle.aes3_forms_words.proofs.laws.written_have_codes.Goals as goal

pub returns : goal.returns
returns c = written-code
