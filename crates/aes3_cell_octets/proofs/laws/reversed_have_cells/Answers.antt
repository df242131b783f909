use Rattle.aes3_cell_octets.proofs.ReversedOctets.{octets-reversed}
use Rattle.aes3_cell_octets.proofs.laws.reversed_have_cells.Goals as goal

pub returns : goal.returns
returns c = octets-reversed
