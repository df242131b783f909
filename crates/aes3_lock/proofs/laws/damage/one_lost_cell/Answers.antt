use Rattle.aes3_lock.proofs.Lost.{blocks-lost}
use Rattle.aes3_lock.proofs.TwoPlaces.{not-bridged}
use Rattle.aes3_lock.proofs.laws.damage.one_lost_cell.Goals as goal

pub returns : goal.returns
returns c = record {
  blocks = blocks-lost;
  slips = not-bridged;
}
