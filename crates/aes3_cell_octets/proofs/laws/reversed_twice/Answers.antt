use Rattle.aes3_cell_octets.proofs.ReversedOctets.{are-octets, octets-twice}
use Rattle.aes3_cell_octets.proofs.laws.reversed_twice.Goals as goal

pub returns : goal.returns
returns c = λ octets. (octets-twice octets, are-octets octets)
