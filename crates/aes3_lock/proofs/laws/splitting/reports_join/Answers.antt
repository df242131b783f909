use Rattle.aes3_lock.proofs.Splits.{reports-join}
use Rattle.aes3_lock.proofs.laws.splitting.reports_join.Goals as goal

pub returns : goal.returns
returns c = reports-join
