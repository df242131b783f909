use Rattle.std.proofs.Common.{◌/◌, ◌^◌, eqb, ap, ◌∙◌, sym, arith}
use Rattle.std.specs.Prelude.{bit_and}
use Rattle.std.proofs.lemmas.List.{take_all}
use Rattle.aes3_status.specs.Bits.{byte_bits}
use Rattle.aes3_status.specs.Register.{polynomial, after_bit, after_bits}
use Rattle.aes3_status.proofs.BitFields.{length-byte_bits}
use Rattle.aes3_status.proofs.ShiftRegister.{after_bits-more}
use Rattle.aes3_status.proofs.check.shift_byte.Goals as goal

pub loop-place-preserved : goal.loop-place-preserved
loop-place-preserved c =
    c.shift_bit-register.ensures
    ∙ ap (λ p. after_bit p (eqb (bit_and (c.args.byte / 2 ^ c.loop-place.place) 1) 1)) c.loop-place.invariant
    ∙ sym (after_bits-more (polynomial c.args.register) c.args.byte c.loop-place.place (omega arith))

pub returns : goal.returns
returns c =
    c.loop-place.invariant
    ∙ ap (after_bits (polynomial c.args.register))
    (take_all c.loop-place.place (byte_bits c.args.byte) (omega (arith, length-byte_bits c.args.byte)))
