use Rattle.aes3_cell.proofs.EightWords.{words-turned}
use Rattle.aes3_cell.proofs.eights.eight_words.Goals as goal

pub returns-clause-cells : goal.returns-clause-cells
returns-clause-cells c = words-turned c.args.octets c.reverse_octets.result c.fits-octets.0 c.reverse_octets.ensures
