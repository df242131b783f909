use Rattle.aes3_cell.proofs.TurnedOctets.{low_four-ok, high_four-ok, turned-lanes}
use Rattle.aes3_cell.proofs.eights.reverse_octets.Goals as goal

pub swizzle-high : goal.swizzle-high
swizzle-high c = low_four-ok c.args.octets c.fits-octets.0

pub swizzle-low : goal.swizzle-low
swizzle-low c = high_four-ok c.args.octets c.fits-octets.0 c.fits-octets.1

pub returns : goal.returns
returns c = turned-lanes c.args.octets c.fits-octets.0 c.fits-octets.1
