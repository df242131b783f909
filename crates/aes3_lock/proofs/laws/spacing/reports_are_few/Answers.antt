use Rattle.aes3_lock.proofs.Spacing.{few-decided}
use Rattle.aes3_lock.proofs.laws.spacing.reports_are_few.Goals as goal

pub returns : goal.returns
returns c = few-decided
