-- The weights of set bits, summed.
use Rattle.std.proofs.Common.{◌≡◌, ℕ, zero, suc, ◌+◌, ◌-◌, ◌*◌, ◌<◌, ◌≤◌, Bool, true, false, not, List, [], ◌∷◌, ◌++◌}
use Rattle.std.proofs.Common.{length, refl, ap, ◌∙◌, sym, arith, length-append, append_assoc}
use Rattle.std.specs.Prelude.{bit_xor, if◌then◌else◌}
use Rattle.std.specs.Int.Bits.{xor_assoc, xor_zero_l}
use Rattle.aes3_status.specs.Bits.{byte_bits, status_bits}
use Rattle.aes3_status.specs.Check.{last_bit, weight, weights, preset, remainder, times_x, power_of_x}
use Rattle.aes3_status.specs.Laws.{flipped}
use Rattle.aes3_status.proofs.BitFields.{length-byte_bits}
use Rattle.aes3_status.proofs.Polynomials.{xor_back, xor_turn, power-not_zero, powers-apart}

pub weight-is : (i n : ℕ) → i + n ≡ 191 → weight i ≡ power_of_x n
unfolding weight last_bit
weight-is i n e = ap power_of_x (omega arith)

pub weight-last : weight 191 ≡ 1
weight-last = weight-is 191 0 (omega arith)

pub weights-step : (i : ℕ) → i < 191 → weight i ≡ times_x (weight (suc i))
weights-step i h = weight-is i (suc (190 - i)) (omega arith)
    ∙ ap times_x (sym (weight-is (suc i) (190 - i) (omega arith)))

pub weights-append : (i : ℕ) (a b : List Bool) → weights i (a ++ b) ≡ bit_xor (weights i a) (weights (i + length a) b)
weights-append i [] b = ap (λ k. weights k b) (omega arith) ∙ sym (xor_zero_l (weights (i + 0) b))
weights-append i (bit ∷ a) b =
    ap (bit_xor (if bit then weight i else 0))
    (weights-append (suc i) a b
    ∙ ap (λ k. bit_xor (weights (suc i) a) (weights k b)) (let e : suc i + length a ≡ i + suc (length a) =
    omega arith in e))
    ∙ sym (xor_assoc (if bit then weight i else 0) (weights (suc i) a) (weights (i + suc (length a)) b))

-- an inverted bit adds its weight
bit-flipped : (bit : Bool) (w s : ℕ)
    → bit_xor (if not bit then w else 0) s ≡ bit_xor w (bit_xor (if bit then w else 0) s)
bit-flipped true w s = xor_zero_l s ∙ sym (xor_back w s)
bit-flipped false w s = sym (ap (bit_xor w) (xor_zero_l s))

pub weights-flipped : (k i : ℕ) (bits : List Bool) → i < length bits
    → weights k (flipped i bits) ≡ bit_xor (weight (k + i)) (weights k bits)
weights-flipped k i [] h = absurd (omega arith)
weights-flipped k zero (bit ∷ bits) h =
    bit-flipped bit (weight k) (weights (suc k) bits)
    ∙ ap (λ n. bit_xor (weight n) (bit_xor (if bit then weight k else 0) (weights (suc k) bits))) (omega arith)
weights-flipped k (suc i) (bit ∷ bits) h =
    ap (bit_xor (if bit then weight k else 0))
    (weights-flipped (suc k) i bits (omega arith)
    ∙ ap (λ n. bit_xor (weight n) (weights (suc k) bits)) (let e : suc k + i ≡ k + suc i = omega arith in e))
    ∙ xor_turn (if bit then weight k else 0) (weight (k + suc i)) (weights (suc k) bits)

pub remainder-flipped : (i : ℕ) (bits : List Bool) → i < length bits
    → remainder (flipped i bits) ≡ bit_xor (weight i) (remainder bits)
unfolding remainder
remainder-flipped i bits h =
    ap (λ n. bit_xor n preset) (weights-flipped 0 i bits h
    ∙ ap (λ n. bit_xor (weight n) (weights 0 bits)) (omega arith))
    ∙ xor_assoc (weight i) (weights 0 bits) preset

pub length-flipped : (i : ℕ) (bits : List Bool) → length (flipped i bits) ≡ length bits
length-flipped i [] = refl
length-flipped zero (bit ∷ bits) = refl
length-flipped (suc i) (bit ∷ bits) = ap suc (length-flipped i bits)

pub weight-not_zero : (i : ℕ) → weight i ≡ 0 → ⊥
unfolding weight
weight-not_zero i e = power-not_zero (last_bit - i) e

pub weights-apart : (i j : ℕ) → i < j → j ≤ last_bit → weight i ≡ weight j → ⊥
unfolding weight last_bit
weights-apart i j h g e = powers-apart (191 - j) (191 - i) (omega arith) (omega arith) (sym e)

pub length-status_bits : (bytes : List ℕ) → length (status_bits bytes) ≡ 8 * length bytes
length-status_bits [] = refl
length-status_bits (x ∷ bytes) =
    omega (arith, length-append (byte_bits x) (status_bits bytes), length-byte_bits x, length-status_bits bytes)

pub status_bits-append : (a b : List ℕ) → status_bits (a ++ b) ≡ status_bits a ++ status_bits b
status_bits-append [] b = refl
status_bits-append (x ∷ a) b = ap (λ s. byte_bits x ++ s) (status_bits-append a b)
    ∙ sym (append_assoc (byte_bits x) (status_bits a) (status_bits b))
