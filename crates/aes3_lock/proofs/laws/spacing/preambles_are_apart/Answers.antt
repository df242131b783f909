use Rattle.aes3_lock.proofs.Spacing.{five-apart}
use Rattle.aes3_lock.proofs.laws.spacing.preambles_are_apart.Goals as goal

pub returns : goal.returns
returns c = five-apart
