use Rattle.aes3_lock.proofs.Overlap.{no-overlap}
use Rattle.aes3_lock.proofs.laws.blocks_never_overlap.Goals as goal

pub returns : goal.returns
returns c = no-overlap
