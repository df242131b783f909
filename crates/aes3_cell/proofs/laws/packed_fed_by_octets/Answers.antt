use Rattle.aes3_cell.proofs.FedLists.{fed-packed}
use Rattle.aes3_cell.proofs.laws.packed_fed_by_octets.Goals as goal

pub returns : goal.returns
returns c = fed-packed
