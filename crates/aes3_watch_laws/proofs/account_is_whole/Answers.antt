use Rattle.aes3_watch_laws.proofs.Covering.{account-covers, account-reports}
use Rattle.aes3_watch_laws.proofs.account_is_whole.Goals as goal

pub returns : goal.returns
returns c = λ d. (account-covers d, account-reports d)
