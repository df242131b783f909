-- The polynomial in the register is the remainder of the bits shifted in.
use Rattle.std.proofs.Common.{◌≡◌, ℕ, suc, ◌+◌, ◌/◌, ◌^◌, ◌<◌, Bool, true, false, cond, not, eqb, List, [], ◌∷◌, ◌++◌}
use Rattle.std.proofs.Common.{length, take, get_or, refl, ap, ◌∙◌, sym, arith, lit<, eqb-true}
use Rattle.std.specs.Prelude.{bit_xor, bit_and, if◌then◌else◌, reverse}
use Rattle.std.specs.Int.Bits.{xor_assoc, xor_zero_r}
use mathlib.Core.Bool.{beq}
use Rattle.std.proofs.lemmas.Bool.{agree_below_at, cond-true, cond-false}
use Rattle.std.proofs.lemmas.List.{take_more, append-nil}
use Rattle.std.proofs.lemmas.Nat.{xor_comm, xor_lt}
use Rattle.aes3_bits.specs.Bits.{low_bits, number}
use Rattle.aes3_status.specs.Bits.{byte_bits, status_bits}
use Rattle.aes3_status.specs.Check.{last_bit, weight, weights, preset, remainder, times_x}
use Rattle.aes3_status.specs.Register.{polynomial, after_bit, after_bits}
use Rattle.aes3_status.proofs.Polynomials.{times_by, times_x-xor, times_x-lt, times_by-xor, times_by-zero}
use Rattle.aes3_status.proofs.Polynomials.{times_by-power}
use Rattle.aes3_status.proofs.BitFields.{take-bits}
use Rattle.aes3_status.proofs.Weights.{weight-is, status_bits-append}

pub after_bits-append : (p : ℕ) (a b : List Bool) → after_bits p (a ++ b) ≡ after_bits (after_bits p a) b
after_bits-append p [] b = refl
after_bits-append p (bit ∷ a) b = after_bits-append (after_bit p bit) a b

abbrev top : Bool → ℕ
top bit = if bit then 2 ^ 7 else 0

top-lt : (bit : Bool) → top bit < 2 ^ 8
top-lt true = lit< tt
top-lt false = lit< tt

-- a bit that is shifted in reaches its weight when bit 183 is in
top-weight : (bit : Bool) (i n : ℕ) → i + suc n ≡ 184 → times_by (suc n) (top bit) ≡ (if bit then weight i else 0)
unfolding times_x
top-weight true i n e = times_by-power (suc n) 7 ∙ sym (weight-is i (suc n + 7) (omega arith))
top-weight false i n e = times_by-zero (suc n)

pub after_bits-weights : (p i : ℕ) (bits : List Bool) → p < 2 ^ 8 → i + length bits ≡ 184
    → after_bits p bits ≡ bit_xor (times_by (length bits) p) (weights i bits)
after_bits-weights p i [] h e = sym (xor_zero_r p)
after_bits-weights p i (bit ∷ bits) h e =
    let q = top-lt bit in
    let x = times_x-xor p (top bit) h q in
    after_bits-weights (after_bit p bit) (suc i) bits (times_x-lt (bit_xor p (top bit)) (xor_lt 8 p (top bit) h q))
    (omega arith)
    ∙ ap (λ n. bit_xor n (weights (suc i) bits))
    (ap (times_by (length bits)) x ∙ times_by-xor (length bits) (times_x p) (times_x (top bit)) (times_x-lt p h)
    (times_x-lt (top bit) q))
    ∙ xor_assoc (times_by (suc (length bits)) p) (times_by (suc (length bits)) (top bit)) (weights (suc i) bits)
    ∙ ap (λ n. bit_xor (times_by (suc (length bits)) p) (bit_xor n (weights (suc i) bits)))
    (top-weight bit i (length bits) e)

-- the ones that the register begins with count as the weights of bits 0 to 7
preset-is : times_by 184 255 ≡ preset
unfolding preset weight last_bit times_x
preset-is = refl

pub after_bits-remainder : (bits : List Bool) → length bits ≡ 184 → after_bits 255 bits ≡ remainder bits
unfolding remainder
after_bits-remainder bits e =
    after_bits-weights 255 0 bits (lit< tt) (omega arith)
    ∙ ap (λ n. bit_xor (times_by n 255) (weights 0 bits)) e
    ∙ ap (λ n. bit_xor n (weights 0 bits)) preset-is
    ∙ xor_comm preset (weights 0 bits)

pub polynomial-255 : polynomial 255 ≡ 255
unfolding polynomial weight last_bit times_x byte_bits
polynomial-255 = refl

-- the register gives its polynomial back, the coefficient of x^7 first
pub turn-polynomial : (r : ℕ) → r < 256 → number (reverse (low_bits 8 (polynomial r))) ≡ r
unfolding polynomial weight last_bit times_x byte_bits
turn-polynomial r h =
    eqb-true _ _ (agree_below_at (λ r. eqb (number (reverse (low_bits 8 (polynomial r)))) r) (λ _. true) 256 r refl h)

pub polynomial_once : (r s : ℕ) → r < 256 → s < 256 → polynomial r ≡ polynomial s → r ≡ s
polynomial_once r s h g e = sym (turn-polynomial r h) ∙ ap (λ p. number (reverse (low_bits 8 p))) e
    ∙ turn-polynomial s g

-- one shift of the register, as the code writes it
abbrev feedback : ℕ → Bool → Bool
feedback r bit = not (beq (eqb (bit_and r 1) 1) bit)

abbrev shift : ℕ → Bool → ℕ
shift r bit = cond (feedback r bit) (bit_xor (r / 2) 184) (r / 2)

shift-is : (bit : Bool) (r : ℕ) → r < 256 → polynomial (shift r bit) ≡ after_bit (polynomial r) bit
unfolding polynomial weight last_bit times_x byte_bits
shift-is true r h =
    eqb-true _ _ (agree_below_at (λ r. eqb (polynomial (shift r true)) (after_bit (polynomial r) true))
    (λ _. true) 256 r refl h)
shift-is false r h =
    eqb-true _ _ (agree_below_at (λ r. eqb (polynomial (shift r false)) (after_bit (polynomial r) false))
    (λ _. true) 256 r refl h)

pub shift-one : (bit : Bool) (r : ℕ) → r < 256 → feedback r bit ≡ true
    → polynomial (bit_xor (r / 2) 184) ≡ after_bit (polynomial r) bit
shift-one bit r h f = ap polynomial (sym (cond-true (feedback r bit) (bit_xor (r / 2) 184) (r / 2) f))
    ∙ shift-is bit r h

pub shift-zero : (bit : Bool) (r : ℕ) → r < 256 → feedback r bit ≡ false
    → polynomial (r / 2) ≡ after_bit (polynomial r) bit
shift-zero bit r h f = ap polynomial (sym (cond-false (feedback r bit) (bit_xor (r / 2) 184) (r / 2) f))
    ∙ shift-is bit r h

-- the bits of a byte one by one
pub after_bits-more : (p byte k : ℕ) → k < 8
    → after_bits p (take (k + 1) (byte_bits byte)) ≡ after_bit (after_bits p (take k (byte_bits byte)))
    (eqb (bit_and (byte / 2 ^ k) 1) 1)
after_bits-more p byte k h = ap (after_bits p) (take-bits byte k h)
    ∙ after_bits-append p (take k (byte_bits byte)) (eqb (bit_and (byte / 2 ^ k) 1) 1 ∷ [])

-- the bytes of a status one by one
pub after_bits-bytes : (p : ℕ) (bytes : List ℕ) (i : ℕ) → i < length bytes
    → after_bits p (status_bits (take (i + 1) bytes)) ≡ after_bits (after_bits p (status_bits (take i bytes)))
    (byte_bits (get_or bytes i 0))
after_bits-bytes p bytes i h =
    ap (λ b. after_bits p (status_bits b)) (take_more bytes i 0 h)
    ∙ ap (after_bits p) (status_bits-append (take i bytes) (get_or bytes i 0 ∷ [])
    ∙ ap (λ b. status_bits (take i bytes) ++ b) (append-nil (byte_bits (get_or bytes i 0))))
    ∙ after_bits-append p (status_bits (take i bytes)) (byte_bits (get_or bytes i 0))
