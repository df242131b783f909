use Rattle.aes3_watch_laws.proofs.LostCells.{loss-lost}
use Rattle.aes3_watch_laws.proofs.loss_is_lost.Goals as goal

pub returns : goal.returns
returns c = loss-lost
