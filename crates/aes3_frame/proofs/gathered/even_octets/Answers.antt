use Rattle.std.proofs.Common.{w64}
use Rattle.std.proofs.lemmas.Simd.{below_from_Fits}
use Rattle.aes3_frame.proofs.FourWords.{narrowed-bits, narrowed-fits}
use Rattle.aes3_frame.proofs.gathered.even_octets.Goals as goal

pub returns-clause-bits : goal.returns-clause-bits
returns-clause-bits c = narrowed-bits c.args.words (below_from_Fits w64 c.args.words c.fits-words.1)

pub returns-clause-fits : goal.returns-clause-fits
returns-clause-fits c = λ i h. narrowed-fits c.args.words i
