use Rattle.aes3_cell_octets.proofs.ReversedEnds.{packs-reversed, reversed-packs}
use Rattle.aes3_cell_octets.proofs.laws.reversed_are_read.Goals as goal

pub returns : goal.returns
returns c = λ octets cells. (reversed-packs octets cells, packs-reversed octets cells)
