use Rattle.aes3_watch_laws.proofs.AccountFronts.{account-short}
use Rattle.aes3_watch_laws.proofs.gaps_are_short.Goals as goal

pub returns : goal.returns
returns c = account-short
