use Rattle.aes3_forms_samples.proofs.Formats.{fitting-back}
use Rattle.aes3_forms_samples.proofs.laws.fitting_come_back.Goals as goal

pub returns : goal.returns
returns c = fitting-back
