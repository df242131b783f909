use Rattle.aes3_lock.proofs.AllStanding.{blocks-all_standing}
use Rattle.aes3_lock.proofs.laws.blocks_are_all_that_stand.Goals as goal

pub returns : goal.returns
returns c = blocks-all_standing
