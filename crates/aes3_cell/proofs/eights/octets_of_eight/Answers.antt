use Rattle.std.proofs.Common.{ap, length}
use Rattle.aes3_cell.proofs.EightWords.{turned-words}
use Rattle.aes3_cell.proofs.eights.octets_of_eight.Goals as goal

pub returns-clause-len : goal.returns-clause-len
returns-clause-len c = ap length c.reverse_octets.ensures

pub returns-clause-octets : goal.returns-clause-octets
returns-clause-octets c = turned-words c.args.words c.reverse_octets.result c.fits-words.1 c.fits-words.0 c.reverse_octets.ensures
