use Rattle.aes3_lock.proofs.AnyChanges.{changes-tell}
use Rattle.aes3_lock.proofs.laws.damage.changes_tell_the_block.Goals as goal

pub returns : goal.returns
returns c = changes-tell
