use Rattle.aes3_status.proofs.SettingLemmas.{only-its-bits, code-back, others-stay}
use Rattle.aes3_status.proofs.laws.codes_are_read_back.Goals as goal

pub returns : goal.returns
returns c = record { bits = only-its-bits; code = code-back; others = others-stay }
