use Rattle.std.proofs.Common.{ℕ, ◌<◌, ◌/◌, ◌%◌, ◌∙◌, Fits, ap, arith, cond, eqb, get_or, w8}
use Rattle.std.proofs.lemmas.Simd.{Each1-get_or}
use Rattle.aes3_slot.proofs.Spread.{low-small, high-small, low-bit, high-bit, halves-spread, halves-fit}
use Rattle.aes3_slot.proofs.four.spread_octets.Goals as goal

pub spread_nibbles-low-requires : goal.spread_nibbles-low-requires
spread_nibbles-low-requires c =
    low-small c.args.octets c.fits-octets.0
    (λ i h. (Each1-get_or (Fits w8) c.args.octets i 0 (let n = c.fits-octets.0 in
    omega (arith, h, n)) c.fits-octets.1).fits)

pub spread_nibbles-high-requires : goal.spread_nibbles-high-requires
spread_nibbles-high-requires c =
    high-small c.args.octets c.fits-octets.0
    (λ i h. (Each1-get_or (Fits w8) c.args.octets i 0 (let n = c.fits-octets.0 in
    omega (arith, h, n)) c.fits-octets.1).fits)

pub returns-clause-fits : goal.returns-clause-fits
returns-clause-fits c =
    halves-fit c.spread_nibbles-low.result c.spread_nibbles-high.result c.spread_nibbles-low.ensures.len
    c.spread_nibbles-low.ensures.fits c.spread_nibbles-high.ensures.fits

pub returns-clause-bits : goal.returns-clause-bits
returns-clause-bits c =
    let v = c.args.octets in
    let fit : (i : ℕ) → i < 16
    → get_or c.args.octets i 0 < 256 =
    λ i h. (Each1-get_or (Fits w8) c.args.octets i 0 (let n = c.fits-octets.0 in
    omega (arith, h, n)) c.fits-octets.1).fits in
    halves-spread v c.spread_nibbles-low.result c.spread_nibbles-high.result c.spread_nibbles-low.ensures.len
    (λ i k h g. c.spread_nibbles-low.ensures.bits i k h g
    ∙ ap (λ b. cond (eqb (k % 2) 0) 0 b) (low-bit v c.fits-octets.0 fit i (k / 2) h (omega arith)))
    (λ i k h g. c.spread_nibbles-high.ensures.bits i k h g
    ∙ ap (λ b. cond (eqb (k % 2) 0) 0 b) (high-bit v c.fits-octets.0 fit i (k / 2) h))
