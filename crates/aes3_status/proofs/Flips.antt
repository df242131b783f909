-- One or two inverted bits leave a remainder.
use Rattle.std.proofs.Common.{◌≡◌, ℕ, List, length, ap, ◌∙◌, sym, arith}
use Rattle.std.specs.Prelude.{bit_xor}
use Rattle.std.specs.Int.Bits.{xor_zero_r}
use Rattle.aes3_status.specs.Check.{last_bit, weight, remainder, check_state_of}
use Rattle.aes3_status.specs.Bits.{status_bits}
use Rattle.aes3_status.specs.declared.check.Check.TheVariants.{Good}
use Rattle.aes3_status.specs.Laws.{flipped, OneFlipped, TwoFlipped, OneFlipIsFound, TwoFlipsAreFound}
use Rattle.aes3_status.proofs.Polynomials.{same_from_xor}
use Rattle.aes3_status.proofs.Weights.{remainder-flipped, length-flipped, weight-not_zero, weights-apart}
use Rattle.aes3_status.proofs.Weights.{length-status_bits}
use Rattle.aes3_status.proofs.CheckBytes.{good-holds}

pub status-length : (bytes : List ℕ) → length bytes ≡ 24 → length (status_bits bytes) ≡ 192
status-length bytes e = length-status_bits bytes ∙ omega arith

pub one-flip : OneFlipIsFound
one-flip before after n h f g =
    weight-not_zero f.place
    (sym (xor_zero_r (weight f.place)) ∙ ap (bit_xor (weight f.place)) (sym h)
    ∙ sym (remainder-flipped f.place before f.within) ∙ ap remainder (sym f.is) ∙ g)

pub two-flips : TwoFlipsAreFound
unfolding last_bit
two-flips before after n h f g =
    weights-apart f.first f.second f.apart (omega arith)
    (same_from_xor (weight f.first) (weight f.second)
    (ap (bit_xor (weight f.first))
    (sym (remainder-flipped f.second before f.within ∙ ap (bit_xor (weight f.second)) h
    ∙ xor_zero_r (weight f.second)))
    ∙ sym (remainder-flipped f.first (flipped f.second before) (omega (arith, length-flipped f.second before)))
    ∙ ap remainder (sym f.is) ∙ g))

-- ---- the same of a status
pub one-flip-state : (before after : List ℕ) → length after ≡ 24 → check_state_of before ≡ Good
    → OneFlipped (status_bits before) (status_bits after)
    → check_state_of after ≡ Good → ⊥
one-flip-state before after e g f h =
    one-flip (status_bits before) (status_bits after)
    (sym (length-flipped f.place (status_bits before)) ∙ ap length (sym f.is) ∙ status-length after e)
    (good-holds before g) f (good-holds after h)

pub two-flips-state : (before after : List ℕ) → length after ≡ 24 → check_state_of before ≡ Good
    → TwoFlipped (status_bits before) (status_bits after)
    → check_state_of after ≡ Good → ⊥
two-flips-state before after e g f h =
    two-flips (status_bits before) (status_bits after)
    (sym (length-flipped f.second (status_bits before))
    ∙ sym (length-flipped f.first (flipped f.second (status_bits before))) ∙ ap length (sym f.is)
    ∙ status-length after e)
    (good-holds before g) f (good-holds after h)
