use Rattle.std.proofs.Common.{◌≡◌, length, take, get_or, ap, ◌∙◌, sym, arith, rules}
use Rattle.std.proofs.lemmas.List.{take_all, length-take-le}
use Rattle.aes3_status.specs.Bits.{byte_bits, status_bits}
use Rattle.aes3_status.specs.Check.{remainder}
use Rattle.aes3_status.specs.Register.{polynomial, after_bits}
use Rattle.aes3_status.proofs.Weights.{length-status_bits}
use Rattle.aes3_status.proofs.ShiftRegister.{polynomial-255, after_bits-bytes, after_bits-remainder}
use Rattle.aes3_status.proofs.CheckBytes.{holds-from, check_byte-is, only-byte}
use Rattle.aes3_status.proofs.check.check_byte.Goals as goal

pub loop-byte-init : goal.loop-byte-init
loop-byte-init c = record { fits = omega arith; shifted = search (rules, polynomial-255) }

pub loop-byte-preserved : goal.loop-byte-preserved
loop-byte-preserved c = record {
  fits = omega arith;
  shifted =
      c.shift_byte-register.ensures
      ∙ ap (λ p. after_bits p
      (byte_bits (get_or (take 23 c.args.bytes.now) c.loop-byte.byte-index 0))) c.loop-byte.invariant.shifted
      ∙ sym (after_bits-bytes 255 (take 23 c.args.bytes.now) c.loop-byte.byte-index (omega arith));
}

-- the register behind the last byte
front : (c : goal.After-loop-byte) → length (take 23 c.args.bytes.now) ≡ 23
front c = length-take-le 23 c.args.bytes.now (omega arith)

at_end : (c : goal.After-loop-byte)
    → polynomial c.loop-byte.register ≡ remainder (status_bits (take 23 c.args.bytes.now))
at_end c =
    c.loop-byte.invariant.shifted
    ∙ ap (λ b. after_bits 255 (status_bits b))
    (take_all c.loop-byte.byte-index (take 23 c.args.bytes.now) (omega arith))
    ∙ after_bits-remainder (status_bits (take 23 c.args.bytes.now))
    (omega (arith, length-status_bits (take 23 c.args.bytes.now), front c))

pub returns-clause-value : goal.returns-clause-value
returns-clause-value c = check_byte-is (take 23 c.args.bytes.now) c.loop-byte.register (omega arith) (at_end c)

pub returns-clause-holds : goal.returns-clause-holds
returns-clause-holds c = holds-from (take 23 c.args.bytes.now) c.loop-byte.register (front c) (at_end c)

pub returns-clause-only : goal.returns-clause-only
returns-clause-only c = λ byte h p.
    only-byte (take 23 c.args.bytes.now) c.loop-byte.register byte (front c) (omega arith) h
    (holds-from (take 23 c.args.bytes.now) c.loop-byte.register (front c) (at_end c)) p
