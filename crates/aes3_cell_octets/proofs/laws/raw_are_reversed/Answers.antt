use Rattle.aes3_cell_octets.proofs.ReversedEnds.{raw-reversed}
use Rattle.aes3_cell_octets.proofs.laws.raw_are_reversed.Goals as goal

pub returns : goal.returns
returns c = raw-reversed
