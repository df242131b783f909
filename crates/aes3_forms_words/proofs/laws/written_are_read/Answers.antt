use Rattle.aes3_forms_words.proofs.ReadBack.{read-back}
use Rattle.aes3_forms_words.proofs.laws.written_are_read.Goals as goal

pub returns : goal.returns
returns c = read-back
