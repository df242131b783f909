use Rattle.aes3_watch_laws.proofs.LostGaps.{change-lost}
use Rattle.aes3_watch_laws.proofs.change_is_lost.Goals as goal

pub returns : goal.returns
returns c = change-lost
