use Rattle.std.proofs.Common.{Fits, arith, w64}
use Rattle.std.proofs.lemmas.Simd.{Each1-get_or}
use Rattle.aes3_slot.proofs.EightWords.{unlike-lanes}
use Rattle.aes3_slot.proofs.search.unlike_of_eight.Goals as goal

pub returns : goal.returns
returns c =
    unlike-lanes c.args.cells c.args.next c.args.distance c.fits-cells.0 c.fits-next.0
    (λ i h. (Each1-get_or (Fits w64) c.args.cells i 0 (let n = c.fits-cells.0 in
    omega (arith, h, n)) c.fits-cells.1).fits) c.requires.0 c.requires.1
