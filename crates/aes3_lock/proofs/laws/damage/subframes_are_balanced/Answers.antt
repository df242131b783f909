use Rattle.aes3_lock.proofs.Balance.{high-subframe, changed-even}
use Rattle.aes3_lock.proofs.laws.damage.subframes_are_balanced.Goals as goal

pub returns : goal.returns
returns c = record { balanced = high-subframe; odd = changed-even }
