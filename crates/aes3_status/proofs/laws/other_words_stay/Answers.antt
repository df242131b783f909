use Rattle.aes3_status.proofs.SettingLines.{other-words-stay}
use Rattle.aes3_status.proofs.laws.other_words_stay.Goals as goal

pub returns : goal.returns
returns c = other-words-stay
