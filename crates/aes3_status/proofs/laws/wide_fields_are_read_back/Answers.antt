use Rattle.aes3_status.proofs.WideFields.{others-stay, wide-back}
use Rattle.aes3_status.proofs.laws.wide_fields_are_read_back.Goals as goal

pub returns : goal.returns
returns c = record { fields = wide-back; others = others-stay }
