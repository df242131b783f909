use Rattle.aes3_lock.proofs.DamageLaws.{stands-local}
use Rattle.aes3_lock.proofs.laws.damage.blocks_stand_by_their_cells.Goals as goal

pub returns : goal.returns
returns c = stands-local
