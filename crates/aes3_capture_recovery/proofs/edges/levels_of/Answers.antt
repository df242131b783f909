use Rattle.std.proofs.Common.{◌*◌, ◌+◌, get_or, sym, ap, subst, ◌∙◌, arith}
use Rattle.std.specs.Int.{bit_at}
use Rattle.std.proofs.lemmas.Nat.Bits.{bit_at-suc}
use Rattle.aes3_capture_recovery.specs.Levels.{AreLevels}
use Rattle.aes3_capture_recovery.proofs.LaneBits.{low-bit, high-bit}
use Rattle.aes3_capture_recovery.proofs.edges.levels_of.Goals.{then-bit-lt8, else-bit-lt8}
use Rattle.aes3_capture_recovery.proofs.edges.levels_of.Goals as goal

pub returns-after-bit-lt8-clause-levels : goal.returns-after-bit-lt8-clause-levels
returns-after-bit-lt8-clause-levels c =
    let octets = c.args.octets.now in
    let bit = c.in-Pairs.bit in
    subst (λ u. AreLevels u octets c.even_bits.result 32) (sym c.in-Pairs.is) (record {
      count = omega (arith, c.told-octets);
      each = λ within i h. elim c.if-bit-lt8.branch [
        | then-bit-lt8 w ↦
            c.even_bits.ensures.bits i h ∙ ap (λ v. bit_at v (2 * i)) w.even_bits-is
            ∙ c.bits_of-found.ensures (2 * i) (omega (arith, h))
            ∙ low-bit (get_or octets (2 * i) 0) (get_or octets (2 * i + 1) 0) bit (omega (arith, w.if-bit-lt8))
        | else-bit-lt8 w ↦
            c.even_bits.ensures.bits i h ∙ ap (λ v. bit_at v (2 * i)) w.even_bits-is
            ∙ ap (λ v. bit_at v (2 * i)) (omega arith) ∙ sym (bit_at-suc c.bits_of-found.result (2 * i))
            ∙ ap (bit_at c.bits_of-found.result) (omega arith) ∙ c.bits_of-found.ensures (2 * i + 1) (omega (arith, h))
            ∙ high-bit (get_or octets (2 * i) 0) (get_or octets (2 * i + 1) 0) bit
            (omega (arith, c.fits-octets (2 * i))) (omega (arith, w.if-bit-lt8)) within
      ];
    })
