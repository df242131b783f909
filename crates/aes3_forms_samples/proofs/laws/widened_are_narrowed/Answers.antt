use Rattle.aes3_forms_samples.proofs.Formats.{widened-back}
use Rattle.aes3_forms_samples.proofs.laws.widened_are_narrowed.Goals as goal

pub returns : goal.returns
returns c = widened-back
