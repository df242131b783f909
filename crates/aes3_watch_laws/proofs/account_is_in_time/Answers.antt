use Rattle.aes3_lock_gaps.proofs.BegunAccounts.{account-stands}
use Rattle.aes3_watch_laws.proofs.Covering.{begun-covers, accounted-soon}
use Rattle.aes3_watch_laws.proofs.account_is_in_time.Goals as goal

pub returns : goal.returns
returns c = record { time = λ d. (begun-covers d, accounted-soon d); stands = account-stands }
