use Rattle.std.proofs.Common.{◌∙◌, ◌+◌, ap, arith, refl, rules}
use Rattle.aes3_cell.specs.Packed.{cells_of_octets}
use Rattle.aes3_cell_octets.proofs.ReversedOctets.{octets-reversed}
use Rattle.aes3_c.proofs.ReversedBits.{all-reversed, more-reversed}
use Rattle.aes3_c.proofs.reversed_octets.aes3_reverse_octets.Goals as goal

pub loop-i-preserved : goal.loop-i-preserved
loop-i-preserved c =
    let within = c.loop-i-test.true in
    let octets = c.args.octets.now in
    more-reversed c.loop-i.i (c.loop-i.i + 1) c.reverse_bits.result octets c.loop-i.octets c.loop-i.invariant (omega (arith, within))
    (search rules) c.reverse_bits.ensures refl

pub returns-clause-octets : goal.returns-clause-octets
returns-clause-octets c =
    let end = c.loop-i-test.false in
    let last = c.loop-i.auto.i-end in
    all-reversed c.loop-i.i c.args.octets.now c.loop-i.octets c.loop-i.invariant (omega (arith, end, last))

pub returns-clause-cells : goal.returns-clause-cells
returns-clause-cells c =
    let end = c.loop-i-test.false in
    let last = c.loop-i.auto.i-end in
    ap cells_of_octets
    (all-reversed c.loop-i.i c.args.octets.now c.loop-i.octets c.loop-i.invariant (omega (arith, end, last)))
    ∙ octets-reversed c.args.octets.now
