-- The lowest bits of numbers.
use mir.Val.{bool_byte}
use Rattle.std.proofs.Common.{◌≡◌, ℕ, suc, ◌+◌, ◌*◌, ◌/◌, ◌%◌, ◌^◌, ◌<◌, List, [], ◌∷◌, ◌++◌, Bool, true, false}
use Rattle.std.proofs.Common.{not, eqb, length, take, refl, sym, ap, ap₂, ◌∙◌, arith, add-one, append_assoc}
use Rattle.std.specs.Prelude.{bit_or, bit_and, count_ones}
use Rattle.std.specs.Int.{bit_at}
use Rattle.std.specs.Int.Bits.{or_shifted_r}
use Rattle.std.proofs.Math.Nat.{pow-succ', div-add-mod, mul_comm}
use Rattle.std.proofs.lemmas.Nat.{shl_whole}
use Rattle.std.proofs.lemmas.Nat.Bits.{bit_at_cat_low, shr_and_one}
use Rattle.std.proofs.lemmas.List.{take_at}
use Rattle.aes3_bits.specs.Bits.{low_bits, odd_ones}
use Rattle.aes3_slot.specs.Slots.{payload_len, slots_len, payload_bits, slots_bits, with_parity}
use Rattle.aes3_bits.proofs.Bits.{length-low_bits, low_bits-above, low_bits-same, low_bits-suc, low_bits-with_parity}
use Rattle.aes3_bits.proofs.Bits.{odd_ones-low_bits, zero-bit}
use Rattle.aes3_slot.proofs.Subframes.{odd_ones-with_parity}
use Rattle.aes3_frame.specs.Files.{has_parity, is_lawful, payload_of}
use Rattle.aes3_slot.proofs.Parity.{last-is}

-- the lowest n bits are those of what 2 ^ n leaves
pub low_bits-mod : (n w : ℕ) → low_bits n (w % 2 ^ n) ≡ low_bits n w
low_bits-mod n w = low_bits-same n (w % 2 ^ n) w (λ i h.
    sym (bit_at_cat_low (w / 2 ^ n) n (w % 2 ^ n) i h) ∙ ap (λ x. bit_at x i) (whole (2 ^ n)))
  where
    whole : (m : ℕ) → w / m * m + w % m ≡ w
    whole m = let e = div-add-mod w m in let f = mul_comm (w / m) m in omega arith

few : (p : ℕ) (b : Bool) → p ≡ bool_byte b → p < 2
few p true e = omega arith
few p false e = omega arith

one : (p : ℕ) (b : Bool) → p ≡ bool_byte b → eqb p 1 ≡ b
one p true e = ap (λ x. eqb x 1) e
one p false e = ap (λ x. eqb x 1) e

-- one more bit
pub low_bits-with_bit : (n m w p : ℕ) (b : Bool) → n < m → w < 2 ^ n → p ≡ bool_byte b
    → low_bits (n + 1) (bit_or w (p * 2 ^ n % 2 ^ m)) ≡ low_bits n w ++ b ∷ []
low_bits-with_bit n m w p b l h e =
    ap₂ low_bits (add-one n) (ap (bit_or w) (shl_whole p 1 n m (few p b e) (omega arith)))
    ∙ low_bits-above n w p h (few p b e)
    ∙ ap (λ x. low_bits n w ++ x ∷ []) (one p b e)

pub with_bit-lt : (n m w p : ℕ) (b : Bool) → n < m → w < 2 ^ n → p ≡ bool_byte b
    → bit_or w (p * 2 ^ n % 2 ^ m) < 2 ^ (n + 1)
with_bit-lt n m w p b l h e =
    let f : bit_or w (p * 2 ^ n % 2 ^ m) ≡ p * 2 ^ n + w = ap (bit_or w) (shl_whole p 1 n m (few p b e) (omega arith))
    ∙ or_shifted_r p n w h in
    let q : 2 ^ (n + 1) ≡ 2 * 2 ^ n = ap (λ k. 2 ^ k) (add-one n) ∙ pow-succ' 2 n in
    go b e f q
  where
    go : (b : Bool) → p ≡ bool_byte b → bit_or w (p * 2 ^ n % 2 ^ m) ≡ p * 2 ^ n + w → 2 ^ (n + 1) ≡ 2 * 2 ^ n
        → bit_or w (p * 2 ^ n % 2 ^ m) < 2 ^ (n + 1)
    go true e f q = let r : p * 2 ^ n ≡ 1 * 2 ^ n = ap (λ k. k * 2 ^ n) e in omega arith
    go false e f q = let r : p * 2 ^ n ≡ 0 * 2 ^ n = ap (λ k. k * 2 ^ n) e in omega arith

-- the word of a payload and its parity bit
pub word-slots : (w p : ℕ) (b : Bool) → w < 2 ^ 27 → p ≡ bool_byte b → b ≡ odd_ones (payload_bits w)
    → slots_bits (bit_or w (p * 2 ^ 27 % 2 ^ 32)) ≡ with_parity (payload_bits w)
unfolding slots_len payload_len
word-slots w p b h e f = low_bits-with_parity 27 32 w p b (omega arith) h e f

word-shr : (s : ℕ) → s < 2 ^ 28 → (s * 16 % 2 ^ 32 / 16 ≡ s) × (s * 16 % 2 ^ 32 % 16 ≡ 0)
word-shr s h = (omega arith, omega arith)

pub word-lawful : (w p : ℕ) (b : Bool) → w < 2 ^ 27 → p ≡ bool_byte b → b ≡ odd_ones (payload_bits w)
    → is_lawful (bit_or w (p * 2 ^ 27 % 2 ^ 32) * 16 % 2 ^ 32) ≡ true
word-lawful w p b h e f =
    let s = word-shr (bit_or w (p * 2 ^ 27 % 2 ^ 32)) (with_bit-lt 27 32 w p b (omega arith) h e) in
    let o : odd_ones (slots_bits (bit_or w (p * 2 ^ 27 % 2 ^ 32))) ≡ false = ap odd_ones (word-slots w p b h e f)
    ∙ odd_ones-with_parity (payload_bits w) in
    rw (s.0, s.1, o) refl

-- a number of 28 bits with even ones, moved to its slots
pub even-lawful : (s : ℕ) → s < 2 ^ 28 → odd_ones (slots_bits s) ≡ false → is_lawful (s * 16 % 2 ^ 32) ≡ true
even-lawful s h o =
    let w = word-shr s h in
    rw (w.0, w.1, o) refl

pub moved-payload : (s : ℕ) → s < 2 ^ 28 → payload_of (s * 16 % 2 ^ 32) ≡ payload_bits s
moved-payload s h = ap payload_bits (word-shr s h).0

-- the payload of a number of 28 bits
pub payload-slots : (s : ℕ) (bits : List Bool) → slots_bits s ≡ with_parity bits → length bits ≡ payload_len
    → payload_bits s ≡ bits
unfolding slots_len payload_len
payload-slots s bits e h =
    sym (take_at (low_bits 27 s) (eqb (bit_at s 27) 1 ∷ []) 27 (length-low_bits 27 s))
    ∙ ap (take 27) (sym (low_bits-suc 27 s) ∙ e)
    ∙ take_at bits (odd_ones bits ∷ []) 27 h

pub word-payload : (w p : ℕ) (b : Bool) → w < 2 ^ 27 → p ≡ bool_byte b → b ≡ odd_ones (payload_bits w)
    → payload_of (bit_or w (p * 2 ^ 27 % 2 ^ 32) * 16 % 2 ^ 32) ≡ payload_bits w
word-payload w p b h e f =
    ap payload_bits (word-shr (bit_or w (p * 2 ^ 27 % 2 ^ 32)) (with_bit-lt 27 32 w p b (omega arith) h e)).0
    ∙ payload-slots (bit_or w (p * 2 ^ 27 % 2 ^ 32)) (payload_bits w) (word-slots w p b h e f)
    (length-low_bits payload_len w)

-- the bits of a lawful word are its payload and the parity bit
pub lawful-slots : (w : ℕ) → has_parity w ≡ true → slots_bits (w / 16) ≡ with_parity (payload_of w)
unfolding slots_len payload_len
lawful-slots w h =
    let n = w / 16 in
    let e : low_bits 28 n ≡ low_bits 27 n ++ eqb (bit_at n 27) 1 ∷ [] = low_bits-suc 27 n in
    e ∙ ap (λ b. low_bits 27 n ++ b ∷ [])
    (last-is (low_bits 27 n) (eqb (bit_at n 27) 1) (ap odd_ones (sym e) ∙ not-true (odd_ones (low_bits 28 n)) h))
  where
    not-true : (b : Bool) → not b ≡ true → b ≡ false
    not-true false h = refl
    not-true true h = cc

-- the parity of a word
pub word-parity : (w : ℕ) → w < 2 ^ 32 → eqb (count_ones (w / 16) % 2) 0 ≡ has_parity w
unfolding slots_len
word-parity w h = zero-bit (count_ones (w / 16) % 2) (omega arith)
    ∙ ap not (odd_ones-low_bits 28 (w / 16) (omega arith))

-- a test of one bit
pub bit-set : (w i : ℕ) → eqb (bit_and (w / 2 ^ i) 1) 1 ≡ eqb (bit_at w i) 1
bit-set w i = ap (λ b. eqb b 1) (shr_and_one w i)

pub low_bits-split : (n w : ℕ)
    → low_bits n (w % 2 ^ n) ++ eqb (bit_at w n) 1 ∷ eqb (bit_at w (suc n)) 1 ∷ eqb
    (bit_at w (suc (suc n))) 1 ∷ [] ≡ low_bits (suc (suc (suc n))) w
low_bits-split n w =
    let x = eqb (bit_at w n) 1 in
    let y = eqb (bit_at w (suc n)) 1 in
    let z = eqb (bit_at w (suc (suc n))) 1 in
    ap (λ c. c ++ x ∷ y ∷ z ∷ []) (low_bits-mod n w)
    ∙ sym (append_assoc (low_bits n w) (x ∷ []) (y ∷ z ∷ [])) ∙ ap (λ c. c ++ y ∷ z ∷ []) (sym (low_bits-suc n w))
    ∙ sym (append_assoc (low_bits (suc n) w) (y ∷ []) (z ∷ [])) ∙ ap (λ c. c ++ z ∷ []) (sym (low_bits-suc (suc n) w))
    ∙ sym (low_bits-suc (suc (suc n)) w)

-- three more bits, one behind the other
pub low_bits-joined : (n a b c w : ℕ) (x y z : Bool) → low_bits (n + 1) a ≡ low_bits n w ++ x ∷ []
    → low_bits (n + 1 + 1) b ≡ low_bits (n + 1) a ++ y ∷ []
    → low_bits (n + 1 + 1 + 1) c ≡ low_bits (n + 1 + 1) b ++ z ∷ []
    → low_bits (n + 1 + 1 + 1) c ≡ low_bits n w ++ x ∷ y ∷ z ∷ []
low_bits-joined n a b c w x y z e f g =
    g ∙ ap (λ v. v ++ z ∷ []) (f ∙ ap (λ v. v ++ y ∷ []) e)
    ∙ ap (λ v. v ++ z ∷ []) (append_assoc (low_bits n w) (x ∷ []) (y ∷ []))
    ∙ append_assoc (low_bits n w) (x ∷ y ∷ []) (z ∷ [])

pub low_bits-read : (n w : ℕ) (x y z : Bool) → x ≡ eqb (bit_at w n) 1 → y ≡ eqb (bit_at w (suc n)) 1
    → z ≡ eqb (bit_at w (suc (suc n))) 1
    → low_bits n (w % 2 ^ n) ++ x ∷ y ∷ z ∷ [] ≡ low_bits (suc (suc (suc n))) w
low_bits-read n w x y z e f g = rw (e, f, g) (low_bits-split n w)
