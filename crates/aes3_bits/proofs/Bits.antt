-- The bits of a number as a list.
use Rattle.std.proofs.Common.{lit<, ◌≡◌, ℕ, zero, suc, ◌+◌, ◌-◌, ◌*◌, ◌/◌, ◌%◌, ◌^◌, ◌<◌, ◌≤◌, ◌⊎◌, inl, inr, min, List}
use Rattle.std.proofs.Common.{[], ◌∷◌, ◌++◌, Bool, true, false, not, cond, length, take, drop, get_or, eqb, eq-eqb}
use Rattle.std.proofs.Common.{ne_eqb}
use Rattle.std.proofs.Common.{refl, sym, ap, ap₂, ◌∙◌, arith, mul_assoc}
use mir.Val.{bool_byte}
use Rattle.std.specs.Prelude.{bit_or, count_ones}
use Rattle.std.specs.Int.{bit_at}
use Rattle.std.specs.Int.Count.{ones_step}
use Rattle.std.proofs.lemmas.Bool.{cases_lt, cases_eq}
use Rattle.std.proofs.lemmas.List.{take_all}
use Rattle.std.proofs.lemmas.Nat.{and_mask, mod_below, mod-pow-add, pow_pos, ones_le_self, shr-shr, or_comm, or_shifted}
use Rattle.std.proofs.lemmas.Nat.{shl_whole}
use Rattle.std.proofs.lemmas.Nat.Bits.{same_from_bits, bit_at_and, bit_at_ones, bit_at_above, bit_at-lt, bit_at_lowest}
use Rattle.std.proofs.lemmas.Nat.Bits.{bit_at-suc, bit_at_cat_low, bit_at_cat_high}
use Rattle.std.proofs.Math.Nat.{mod-eq_of_lt, pow-suc, pow-succ'}
use Rattle.aes3_bits.specs.Bits.{low_bits, number, odd_ones}

pub length-low_bits : (n w : ℕ) → length (low_bits n w) ≡ n
length-low_bits zero w = refl
length-low_bits (suc n) w = ap suc (length-low_bits n (w / 2))

-- one more bit
pub low_bits-suc : (n w : ℕ) → low_bits (suc n) w ≡ low_bits n w ++ eqb (bit_at w n) 1 ∷ []
low_bits-suc zero w = ap (λ b. eqb b 1 ∷ []) (sym (bit_at_lowest w))
low_bits-suc (suc n) w =
    ap (λ c. eqb (w % 2) 1 ∷ c) (low_bits-suc n (w / 2)
    ∙ ap (λ b. low_bits n (w / 2) ++ eqb b 1 ∷ []) (sym (bit_at-suc w n)))

-- the lowest bits alone count
pub low_bits-same : (n a b : ℕ) → ((i : ℕ) → i < n → bit_at a i ≡ bit_at b i) → low_bits n a ≡ low_bits n b
low_bits-same zero a b h = refl
low_bits-same (suc n) a b h =
    ap₂ (λ bit c. eqb bit 1 ∷ c) (sym (bit_at_lowest a) ∙ h 0 (omega arith) ∙ bit_at_lowest b)
    (low_bits-same n (a / 2) (b / 2) (λ i lt. sym (bit_at-suc a i) ∙ h (suc i) (omega arith) ∙ bit_at-suc b i))

-- the lowest bits and those behind them
pub low_bits-add : (m n w : ℕ) → low_bits (m + n) w ≡ low_bits m w ++ low_bits n (w / 2 ^ m)
low_bits-add zero n w =
    let a : zero + n ≡ n = omega arith in
    let b : w / 1 ≡ w = omega arith in
    rw (a, b) refl
low_bits-add (suc m) n w =
    let a : suc m + n ≡ suc (m + n) = omega arith in
    let b : 1 + m ≡ suc m = omega arith in
    ap (λ k. low_bits k w) a
    ∙ ap (λ c. eqb (w % 2) 1 ∷ c) (low_bits-add m n (w / 2)
    ∙ ap (λ v. low_bits m (w / 2) ++ low_bits n v) (shr-shr w 1 m ∙ ap (λ k. w / 2 ^ k) b))

-- the parity of a number of n bits
pub odd_ones-low_bits : (n w : ℕ) → w < 2 ^ n → eqb (count_ones w % 2) 1 ≡ odd_ones (low_bits n w)
odd_ones-low_bits zero w h =
    let e : count_ones w ≡ 0 = let l = ones_le_self w in omega arith in
    ap (λ k. eqb (k % 2) 1) e
odd_ones-low_bits (suc n) w h =
    let p = pow-succ' 2 n in
    ap (λ k. eqb (k % 2) 1) (ones_step w)
    ∙ go (w % 2) (omega arith) (count_ones (w / 2)) (low_bits n (w / 2)) (odd_ones-low_bits n (w / 2) (omega arith))
  where
    go : (b : ℕ) → b < 2 → (k : ℕ) (bits : List Bool) → eqb (k % 2) 1 ≡ odd_ones bits
        → eqb ((b + k) % 2) 1 ≡ odd_ones (eqb b 1 ∷ bits)
    go zero g k bits i = ap (λ z. eqb (z % 2) 1) (let e : 0 + k ≡ k = omega arith in e) ∙ i
    go (suc zero) g k bits i = step (k % 2) refl (omega arith) ∙ ap not i
      where
        step : (b : ℕ) → k % 2 ≡ b → b < 2 → eqb ((1 + k) % 2) 1 ≡ not (eqb (k % 2) 1)
        step zero e l = let f : (1 + k) % 2 ≡ 1 = omega arith in rw (f, e) refl
        step (suc zero) e l = let f : (1 + k) % 2 ≡ 0 = omega arith in rw (f, e) refl
        step (suc (suc b)) e l = absurd (omega arith)
    go (suc (suc b)) g k bits i = absurd (omega arith)

-- a bit is 0 where it is not 1
pub zero-bit : (b : ℕ) → b < 2 → eqb b 0 ≡ not (eqb b 1)
zero-bit zero h = refl
zero-bit (suc zero) h = refl
zero-bit (suc (suc b)) h = absurd (omega arith)

-- a payload with a bit put above it
pub low_bits-above : (n w p : ℕ) → w < 2 ^ n → p < 2
    → low_bits (suc n) (bit_or w (p * 2 ^ n)) ≡ low_bits n w ++ eqb p 1 ∷ []
low_bits-above n w p h g =
    let e : bit_or w (p * 2 ^ n) ≡ p * 2 ^ n + w = or_comm w (p * 2 ^ n) ∙ or_shifted p n w h in
    let z : p / 2 ^ 0 % 2 ≡ p = omega arith in
    low_bits-suc n (bit_or w (p * 2 ^ n))
    ∙ ap₂ (λ c b. c ++ eqb b 1 ∷ [])
    (ap (low_bits n) e ∙ low_bits-same n (p * 2 ^ n + w) w (λ i lt. bit_at_cat_low p n w i lt))
    (ap (λ v. bit_at v n) e ∙ bit_at_cat_high p n w n h (omega arith)
    ∙ ap (λ k. bit_at p k) (let q : n - n ≡ 0 = omega arith in q) ∙ z)

-- a payload with its parity bit put above it
pub low_bits-with_parity : (n m w p : ℕ) (b : Bool) → n < m → w < 2 ^ n → p ≡ bool_byte b → b ≡ odd_ones (low_bits n w)
    → low_bits (suc n) (bit_or w (p * 2 ^ n % 2 ^ m)) ≡ low_bits n w ++ odd_ones (low_bits n w) ∷ []
low_bits-with_parity n m w p b l h e f =
    ap (λ x. low_bits (suc n) (bit_or w x)) (shl_whole p 1 n m (few b e) (omega arith))
    ∙ low_bits-above n w p h (few b e)
    ∙ ap (λ x. low_bits n w ++ x ∷ []) (one b e ∙ f)
  where
    few : (b : Bool) → p ≡ bool_byte b → p < 2
    few true e = omega arith
    few false e = omega arith

    one : (b : Bool) → p ≡ bool_byte b → eqb p 1 ≡ b
    one true e = ap (λ x. eqb x 1) e
    one false e = ap (λ x. eqb x 1) e

-- bit i of the list is bit i of the number
pub low_bits-at : (n w i : ℕ) → i < n → get_or (low_bits n w) i false ≡ eqb (bit_at w i) 1
low_bits-at zero w i h = absurd (omega arith)
low_bits-at (suc n) w zero h = ap (λ b. eqb b 1) (sym (bit_at_lowest w))
low_bits-at (suc n) w (suc i) h = low_bits-at n (w / 2) i (omega arith) ∙ ap (λ b. eqb b 1) (sym (bit_at-suc w i))

-- ---- the number of bits
bit-value : (n : ℕ) → cond (eqb (n % 2) 1) 1 0 ≡ n % 2
bit-value n = go (cases_eq (n % 2) 1)
  where
    go : (n % 2 ≡ 1) ⊎ (n % 2 ≡ 1 → ⊥) → cond (eqb (n % 2) 1) 1 0 ≡ n % 2
    go (inl e) = let t = eq-eqb (n % 2) 1 e in rw t (sym e)
    go (inr e) = let t = ne_eqb (n % 2) 1 e in rw t (omega arith)

-- of the first of the lowest bits
pub number-take : (count k n : ℕ) → count ≤ k → number (take count (low_bits k n)) ≡ n % 2 ^ count
number-take zero k n h = omega arith
number-take (suc count) zero n h = absurd (omega arith)
number-take (suc count) (suc k) n h =
    let step : n % 2 ^ suc count ≡ n / 2 % 2 ^ count * 2 + n % 2 =
    ap (λ k. n % 2 ^ k) (let e : suc count ≡ count + 1 = omega arith in e) ∙ mod-pow-add n count 1 in
    let rest = number-take count k (n / 2) (omega arith) in
    let first = bit-value n in
    rw (first, rest) (omega (arith, step))

-- of all of them
pub number-low : (k n : ℕ) → number (low_bits k n) ≡ n % 2 ^ k
number-low k n = ap number (sym (take_all k (low_bits k n) (omega (arith, length-low_bits k n))))
    ∙ number-take k k n (omega arith)

pub number-low_bits : (k n : ℕ) → n < 2 ^ k → number (low_bits k n) ≡ n
number-low_bits k n h = number-low k n ∙ mod-eq_of_lt h

-- of bits in the middle
pub number-middle : (from count k n : ℕ) → from + count ≤ k
    → number (take count (drop from (low_bits k n))) ≡ n / 2 ^ from % 2 ^ count
number-middle zero count k n h = number-take count k n (omega arith) ∙ ap (λ m. m % 2 ^ count) (omega arith)
number-middle (suc from) count zero n h = absurd (omega arith)
number-middle (suc from) count (suc k) n h =
    number-middle from count k (n / 2) (omega arith)
    ∙ ap (λ m. m % 2 ^ count) (shr-shr n 1 from ∙ ap (λ j. n / 2 ^ j) (omega arith))

-- of all but the first
pub number-drop : (from k n : ℕ) → n < 2 ^ k → from ≤ k → number (drop from (low_bits k n)) ≡ n / 2 ^ from
number-drop zero k n h g = number-low_bits k n h ∙ omega arith
number-drop (suc from) zero n h g = absurd (omega arith)
number-drop (suc from) (suc k) n h g =
    number-drop from k (n / 2) (omega (arith, pow-succ' 2 k)) (omega arith)
    ∙ shr-shr n 1 from ∙ ap (λ j. n / 2 ^ j) (let e : 1 + from ≡ suc from = omega arith in e)

pub number-lt : (bits : List Bool) → number bits < 2 ^ length bits
number-lt [] = lit< tt
number-lt (false ∷ bits) = let i = number-lt bits in let e = pow-succ' 2 (length bits) in omega (arith, e)
number-lt (true ∷ bits) = let i = number-lt bits in let e = pow-succ' 2 (length bits) in omega (arith, e)

pub low_bits-number : (bits : List Bool) → low_bits (length bits) (number bits) ≡ bits
low_bits-number [] = refl
low_bits-number (false ∷ bits) =
    let e : (0 + 2 * number bits) % 2 ≡ 0 = omega arith in
    let f : (0 + 2 * number bits) / 2 ≡ number bits = omega arith in
    let i = low_bits-number bits in
    rw (e, f, i) refl
low_bits-number (true ∷ bits) =
    let e : (1 + 2 * number bits) % 2 ≡ 1 = omega arith in
    let f : (1 + 2 * number bits) / 2 ≡ number bits = omega arith in
    let i = low_bits-number bits in
    rw (e, f, i) refl

pub number-append : (a b : List Bool) → number (a ++ b) ≡ number a + 2 ^ length a * number b
number-append [] b = omega arith
number-append (bit ∷ a) b = rw (number-append a b, pow-suc) (omega (arith, mul_assoc 2 (2 ^ length a) (number b)))

-- one more bit
pub number-push : (bits : List Bool) (b : Bool) → number (bits ++ b ∷ []) ≡ number bits + cond b (2 ^ length bits) 0
number-push bits b = number-append bits (b ∷ []) ∙ go b
  where
    go : (b : Bool) → number bits + 2 ^ length bits * number (b ∷ []) ≡ number bits + cond b (2 ^ length bits) 0
    go false = omega arith
    go true = omega arith

-- a number whose bits from n on are zeros
pub lt-from-bits : (n m w : ℕ) → w < 2 ^ m → ((i : ℕ) → n ≤ i → i < m → bit_at w i ≡ 0) → w < 2 ^ n
lt-from-bits n m w l h =
    let e : w ≡ w % 2 ^ n = same_from_bits w (w % 2 ^ n) (λ i. bit i (cases_lt i n) (cases_lt i m)) in
    let p = mod_below w (2 ^ n) (pow_pos n) in
    omega arith
  where
    bit : (i : ℕ) → (i < n) ⊎ (n ≤ i) → (i < m) ⊎ (m ≤ i) → bit_at w i ≡ bit_at (w % 2 ^ n) i
    bit i (inl a) b =
        let x = bit_at-lt w i in
        sym (ap (λ v. bit_at v i) (sym (and_mask w n)) ∙ bit_at_and w (2 ^ n - 1) i
        ∙ ap (min (bit_at w i)) (bit_at_ones n i a) ∙ omega arith)
    bit i (inr a) (inl b) = h i a b ∙ sym (bit_at_above (w % 2 ^ n) n i (mod_below w (2 ^ n) (pow_pos n)) a)
    bit i (inr a) (inr b) = bit_at_above w m i l b
        ∙ sym (bit_at_above (w % 2 ^ n) n i (mod_below w (2 ^ n) (pow_pos n)) a)
