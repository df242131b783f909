use Rattle.aes3_lock.proofs.DecidedReports.{filtered}
use Rattle.aes3_lock.proofs.DecidedStand.{decided-stand}
use Rattle.aes3_lock.proofs.laws.decided_reports_stand.Goals as goal

pub returns : goal.returns
returns c = record { filtered = filtered; stand = decided-stand }
