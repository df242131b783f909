use Rattle.aes3_forms_words.proofs.ReadBack.{only-right}
use Rattle.aes3_forms_words.proofs.laws.only_right_are_lawful.Goals as goal

pub returns : goal.returns
returns c = only-right
