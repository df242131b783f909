use Rattle.aes3_lock.proofs.Inserted.{blocks-inserted}
use Rattle.aes3_lock.proofs.laws.damage.one_inserted_cell.Goals as goal

pub returns : goal.returns
returns c = blocks-inserted
