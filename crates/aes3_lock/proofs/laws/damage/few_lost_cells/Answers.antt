use Rattle.aes3_lock.proofs.Losses.{losses-stood, losses-given}
use Rattle.aes3_lock.proofs.laws.damage.few_lost_cells.Goals as goal

pub returns : goal.returns
returns c = record { stood = losses-stood; blocks = losses-given }
