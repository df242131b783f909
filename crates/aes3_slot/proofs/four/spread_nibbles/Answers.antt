use Rattle.std.proofs.Common.{◌∙◌, w8}
use Rattle.std.proofs.lemmas.Simd.{length-swz_l}
use Rattle.aes3_slot.specs.declared.four.TheConstants.{SPREAD}
use Rattle.aes3_slot.proofs.Spread.{table-ok, looked-fits, looked-bits}
use Rattle.aes3_slot.proofs.four.spread_nibbles.Goals as goal

pub swizzle : goal.swizzle
swizzle c = table-ok c.args.nibbles c.fits-nibbles.0 c.requires

pub returns-clause-fits : goal.returns-clause-fits
returns-clause-fits c = looked-fits c.args.nibbles c.fits-nibbles.0 c.requires

pub returns-clause-bits : goal.returns-clause-bits
returns-clause-bits c = looked-bits c.args.nibbles c.fits-nibbles.0 c.requires

pub returns-clause-len : goal.returns-clause-len
returns-clause-len c = length-swz_l w8 16 SPREAD 0 c.args.nibbles ∙ c.fits-nibbles.0
