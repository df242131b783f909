use Rattle.std.proofs.Common.{Fits, arith, w64}
use Rattle.std.proofs.lemmas.Simd.{Each1-get_or}
use Rattle.aes3_lock.proofs.EightWords.{moved-cells, moved-few}
use Rattle.aes3_lock.proofs.begun_subframe.fronts_of.Goals as goal

pub returns-clause-cells : goal.returns-clause-cells
returns-clause-cells c = moved-cells c.args.len c.args.begun c.args.words c.fits-words.0 c.requires

pub returns-clause-few : goal.returns-clause-few
returns-clause-few c = λ b.
    let n = c.fits-words.0 in
    moved-few c.args.len c.args.begun c.args.words n c.requires b
    (λ i h. (Each1-get_or (Fits w64) c.args.words i 0 (omega (arith, h, n)) c.fits-words.1).fits)
