use Rattle.aes3_lock.proofs.TwoChanges.{blocks-two-changed}
use Rattle.aes3_lock.proofs.laws.damage.two_changed_cells.Goals as goal

pub returns : goal.returns
returns c = blocks-two-changed
