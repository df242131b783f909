use Rattle.aes3_cell_octets.proofs.ReversedOctets.{whole-reversed}
use Rattle.aes3_cell_octets.proofs.laws.whole_are_reversed.Goals as goal

pub returns : goal.returns
returns c = whole-reversed
