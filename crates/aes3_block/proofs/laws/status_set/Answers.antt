use Rattle.aes3_block.proofs.StatusLaws.{status-back, status-stays, status-only}
use Rattle.aes3_block.proofs.laws.status_set.Goals as goal

pub returns-clause-back : goal.returns-clause-back
returns-clause-back c = status-back

pub returns-clause-stays : goal.returns-clause-stays
returns-clause-stays c = status-stays

pub returns-clause-only : goal.returns-clause-only
returns-clause-only c = status-only
