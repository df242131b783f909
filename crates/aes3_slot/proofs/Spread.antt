-- Bits at twice their places and one more, in lanes.
use Rattle.std.proofs.Common.{◌≡◌, ℕ, zero, suc, ◌+◌, ◌-◌, ◌*◌, ◌/◌, ◌%◌, ◌^◌, ◌<◌, ◌≤◌, ◌⊎◌, inl, inr, List, [], ◌∷◌}
use Rattle.std.proofs.Common.{◌++◌, Bool, true, false, cond, eqb, ltb, length, get_or, replicate, refl, sym, ap, ◌∙◌}
use Rattle.std.proofs.Common.{subst, arith, w8, eqb-true, eq-eqb, ne_eqb, ltb-true}
use Rattle.std.specs.Prelude.{bit_and}
use Rattle.std.specs.Int.{bit_at}
use Rattle.std.specs.Simd.Lanes.{zip2, pick_l, chunk}
use lib.Lanes.{Each1, number_l, digits_l}
use Rattle.std.proofs.lemmas.Bool.{agree_below_at, cases_lt, cases_eq}
use Rattle.std.proofs.lemmas.List.{get_or-map, get_or_append_left, get_or-append-add, get_or_past}
use Rattle.std.proofs.lemmas.Nat.{and_le_r}
use Rattle.std.proofs.lemmas.Nat.Bits.{bit_at_and, bit_at_ones, bit_at_cat_low, bit_at_cat_high}
use Rattle.std.proofs.lemmas.Simd.{swz_l, SwzOk, SwzOk-from_below, get_or-swz_l_below, Each1-from_get_or, get_or-zip2}
use Rattle.std.proofs.lemmas.Simd.{get_or-replicate, get_or_wider, get_or_narrower, get_or-chunk, length-chunk}
use Rattle.aes3_level.proofs.Moves.{bit_at-shr}
use Rattle.aes3_slot.specs.declared.four.TheConstants.{SPREAD, IN_TURN}

-- bit k of a number whose bit n is bit n of x, at twice its place and one more
abbrev pub spread_bit : ℕ → ℕ → ℕ
spread_bit x k = cond (eqb (k % 2) 0) 0 (bit_at x (k / 2))

-- the table
table-bit : (x k : ℕ) → x < 16 → k < 8 → bit_at (get_or SPREAD x 0) k ≡ spread_bit x k
table-bit x k h g =
    let q : (8 * x + k) / 8 ≡ x = omega arith in
    let r : (8 * x + k) % 8 ≡ k = omega arith in
    let t = agree_below_at (λ j. eqb (bit_at (get_or SPREAD (j / 8) 0) (j % 8)) (spread_bit (j / 8) (j % 8)))
    (λ _. true) 128 (8 * x + k) refl (omega arith) in
    eqb-true _ _ (rw (q, r) at t)

table-fits : (x : ℕ) → x < 16 → get_or SPREAD x 0 < 256
table-fits x h = ltb-true _ _ (agree_below_at (λ j. ltb (get_or SPREAD j 0) 256) (λ _. true) 16 x refl h)

module _ (js : List ℕ) (count : length js ≡ 16) (small : (i : ℕ) → i < 16 → get_or js i 0 < 16) where
  pub table-ok : SwzOk w8 16 16 0 js
  table-ok = SwzOk-from_below w8 16 1 16 0 js refl (omega (arith, count))
      (Each1-from_get_or (λ j. j < 16) js 0 (λ i h. small i (omega (arith, count, h))))

  looked-up : (i : ℕ) → i < 16 → get_or (swz_l w8 16 SPREAD 0 js) i 0 ≡ get_or SPREAD (get_or js i 0) 0
  looked-up i h =
      get_or-swz_l_below w8 16 SPREAD 0 js i (omega (arith, count, h)) (small i h)
      ∙ ap (λ j. get_or SPREAD j 0) (let e : 16 * ((0 + i) / 16) + get_or js i 0 ≡ get_or js i 0 =
      omega (arith, h) in e)

  pub looked-fits : (i : ℕ) → i < 16 → get_or (swz_l w8 16 SPREAD 0 js) i 0 < 256
  looked-fits i h = subst (λ n. n < 256) (sym (looked-up i h)) (table-fits (get_or js i 0) (small i h))

  pub looked-bits : (i k : ℕ) → i < 16 → k < 8
      → bit_at (get_or (swz_l w8 16 SPREAD 0 js) i 0) k ≡ spread_bit (get_or js i 0) k
  looked-bits i k h g = ap (λ n. bit_at n k) (looked-up i h) ∙ table-bit (get_or js i 0) k (small i h) g

-- the lower and the higher halves of octets
module _ (v : List ℕ) (count : length v ≡ 16) (octets : (i : ℕ) → i < 16 → get_or v i 0 < 256) where
  low-at : (i : ℕ) → i < 16 → get_or (zip2 bit_and v (replicate 16 15)) i 0 ≡ bit_and (get_or v i 0) 15
  low-at i h = get_or-zip2 bit_and v (replicate 16 15) i 0 0 0 (omega (arith, count, h)) h
      ∙ ap (bit_and (get_or v i 0)) (get_or-replicate 16 i 15 0 h)

  high-at : (i : ℕ) → i < 16 → get_or (zip2 (λ x s. x / 2 ^ s) v (replicate 16 4)) i 0 ≡ get_or v i 0 / 2 ^ 4
  high-at i h =
      get_or-zip2 (λ x s. x / 2 ^ s) v (replicate 16 4) i 0 0 0 (omega (arith, count, h)) h
      ∙ ap (λ s. get_or v i 0 / 2 ^ s) (get_or-replicate 16 i 4 0 h)

  pub low-small : (i : ℕ) → i < 16 → get_or (zip2 bit_and v (replicate 16 15)) i 0 < 16
  low-small i h = let e = low-at i h in let l = and_le_r (get_or v i 0) 15 in omega (arith, e, l)

  pub high-small : (i : ℕ) → i < 16 → get_or (zip2 (λ x s. x / 2 ^ s) v (replicate 16 4)) i 0 < 16
  high-small i h = let e = high-at i h in let l = octets i h in omega (arith, e, l)

  pub low-bit : (i j : ℕ) → i < 16 → j < 4
      → bit_at (get_or (zip2 bit_and v (replicate 16 15)) i 0) j ≡ bit_at (get_or v i 0) j
  low-bit i j h g =
      let o = bit_at_ones 4 j g in
      ap (λ n. bit_at n j) (low-at i h) ∙ bit_at_and (get_or v i 0) 15 j ∙ omega (arith, o)

  pub high-bit : (i j : ℕ) → i < 16
      → bit_at (get_or (zip2 (λ x s. x / 2 ^ s) v (replicate 16 4)) i 0) j ≡ bit_at (get_or v i 0) (4 + j)
  high-bit i j h = ap (λ n. bit_at n j) (high-at i h) ∙ bit_at-shr (get_or v i 0) 4 j

-- two vectors in turn
pub in_turn-at : (a b : List ℕ) (i : ℕ) → length a ≡ 16 → i < 32
    → get_or (pick_l 0 (a ++ b) IN_TURN) i 0 ≡ cond (eqb (i % 2) 0) (get_or a (i / 2) 0) (get_or b (i / 2) 0)
in_turn-at a b i l h =
    get_or-map (λ k. get_or (a ++ b) k 0) IN_TURN i 0 0 h ∙ ap (λ k. get_or (a ++ b) k 0) place
    ∙ go (cases_eq (i % 2) 0)
  where
    place : get_or IN_TURN i 0 ≡ 16 * (i % 2) + i / 2
    place = eqb-true _ _ (agree_below_at (λ j. eqb (get_or IN_TURN j 0) (16 * (j % 2) + j / 2)) (λ _. true) 32 i refl h)

    go : (i % 2 ≡ 0) ⊎ (i % 2 ≡ 0 → ⊥)
        → get_or (a ++ b) (16 * (i % 2) + i / 2) 0 ≡ cond (eqb (i % 2) 0) (get_or a (i / 2) 0) (get_or b (i / 2) 0)
    go (inl e) =
        let t = eq-eqb (i % 2) 0 e in
        let p : 16 * (i % 2) + i / 2 ≡ i / 2 = omega (arith, e) in
        rw (t, p) (get_or_append_left a b 0 (i / 2) (omega (arith, l, h)))
    go (inr e) =
        let t = ne_eqb (i % 2) 0 e in
        let p : 16 * (i % 2) + i / 2 ≡ length a + i / 2 = omega (arith, l, e) in
        rw (t, p) (get_or-append-add a b (i / 2) 0)

-- the bits of numbers of octets
pub octet-bit : (w m i : ℕ) → i < 8 → bit_at (w / 2 ^ m % 256) i ≡ bit_at w (m + i)
octet-bit w m i h =
    sym (bit_at_cat_low (w / 2 ^ m / 256) 8 (w / 2 ^ m % 256) i h) ∙ ap (λ v. bit_at v i) (whole (w / 2 ^ m))
    ∙ bit_at-shr w m i
  where
    whole : (y : ℕ) → y / 256 * 2 ^ 8 + y % 256 ≡ y
    whole y = omega arith

pub number-bit : (xs : List ℕ) → ((i : ℕ) → get_or xs i 0 < 256) → (k : ℕ) → k < 8 * length xs
    → bit_at (number_l 256 xs) k ≡ bit_at (get_or xs (k / 8) 0) (k % 8)
number-bit [] fit k h = absurd (omega arith)
number-bit (x ∷ xs) fit k h =
    ap (λ v. bit_at v k) (let e : x + 256 * number_l 256 xs ≡ number_l 256 xs * 2 ^ 8 + x = omega arith in e)
    ∙ go (cases_lt k 8) (number-bit xs (λ i. fit (suc i)))
  where
    go : (k < 8) ⊎ (8 ≤ k)
        → ((j : ℕ) → j < 8 * length xs → bit_at (number_l 256 xs) j ≡ bit_at (get_or xs (j / 8) 0) (j % 8))
        → bit_at (number_l 256 xs * 2 ^ 8 + x) k ≡ bit_at (get_or (x ∷ xs) (k / 8) 0) (k % 8)
    go (inl a) rest =
        let q : k / 8 ≡ 0 = omega arith in
        let r : k % 8 ≡ k = omega arith in
        rw (q, r) (bit_at_cat_low (number_l 256 xs) 8 x k a)
    go (inr a) rest =
        let q : k / 8 ≡ suc ((k - 8) / 8) = omega arith in
        let r : k % 8 ≡ (k - 8) % 8 = omega arith in
        rw (q, r) (bit_at_cat_high (number_l 256 xs) 8 x k (fit 0) a ∙ rest (k - 8) (omega (arith, h, a)))

-- octets in turn of the two halves, each spread
pub halves-spread : (v low high : List ℕ) → length low ≡ 16
    → ((i k : ℕ) → i < 16 → k < 8 → bit_at (get_or low i 0) k ≡ cond (eqb (k % 2) 0) 0 (bit_at (get_or v i 0) (k / 2)))
    → ((i k : ℕ) → i < 16 → k < 8
    → bit_at (get_or high i 0) k ≡ cond (eqb (k % 2) 0) 0 (bit_at (get_or v i 0) (4 + k / 2)))
    → (i k : ℕ) → i < 32 → k < 8
    → bit_at (get_or (pick_l 0 (low ++ high) IN_TURN) i 0) k ≡ cond (eqb (k % 2) 0) 0
    (bit_at (get_or v (i / 2) 0) (4 * (i % 2) + k / 2))
halves-spread v low high l a b i k h g = ap (λ n. bit_at n k) (in_turn-at low high i l h) ∙ go (cases_eq (i % 2) 0)
  where
    go : (i % 2 ≡ 0) ⊎ (i % 2 ≡ 0 → ⊥) → bit_at (cond (eqb (i % 2) 0) (get_or low (i / 2) 0) (get_or high (i / 2) 0)) k
        ≡ cond (eqb (k % 2) 0) 0 (bit_at (get_or v (i / 2) 0) (4 * (i % 2) + k / 2))
    go (inl e) =
        let t = eq-eqb (i % 2) 0 e in
        let p : 4 * (i % 2) + k / 2 ≡ k / 2 = omega (arith, e) in
        rw (t, p) (a (i / 2) k (omega (arith, h)) g)
    go (inr e) =
        let t = ne_eqb (i % 2) 0 e in
        let p : 4 * (i % 2) + k / 2 ≡ 4 + k / 2 = omega (arith, e) in
        rw (t, p) (b (i / 2) k (omega (arith, h)) g)

pub halves-fit : (low high : List ℕ) → length low ≡ 16 → ((i : ℕ) → i < 16 → get_or low i 0 < 256)
    → ((i : ℕ) → i < 16 → get_or high i 0 < 256)
    → (i : ℕ) → i < 32 → get_or (pick_l 0 (low ++ high) IN_TURN) i 0 < 256
halves-fit low high l a b i h = subst (λ n. n < 256) (sym (in_turn-at low high i l h)) (either (eqb (i % 2) 0))
  where
    either : (t : Bool) → cond t (get_or low (i / 2) 0) (get_or high (i / 2) 0) < 256
    either true = a (i / 2) (omega (arith, h))
    either false = b (i / 2) (omega (arith, h))

-- words of spread octets
module _ (words octets : List ℕ) (fit : Each1 (λ x. x < 2 ^ 32) words) (count : length octets ≡ 32) (small : (i : ℕ)
    → i < 32 → get_or octets i 0 < 256)
    (spread : (i k : ℕ) → i < 32 → k < 8 → bit_at (get_or octets i 0) k
    ≡ cond (eqb (k % 2) 0) 0
    (bit_at (get_or (digits_l 256 16 (number_l (2 ^ 32) words)) (i / 2) 0) (4 * (i % 2) + k / 2))) where
  octet-of : (i m j : ℕ) → i < 4 → m < 4 → j < 8
      → bit_at (get_or (digits_l 256 16 (number_l (2 ^ 32) words)) (4 * i + m) 0) j ≡ bit_at
      (get_or words i 0) (8 * m + j)
  octet-of i m j h g l =
      ap (λ n. bit_at n j) (get_or_narrower (2 ^ 32) 4 256 16 words i m refl fit g (omega (arith, h, g)) ∙ go m g)
      ∙ octet-bit (get_or words i 0) (8 * m) j l
    where
      go : (m : ℕ) → m < 4 → get_or words i 0 / 256 ^ m % 256 ≡ get_or words i 0 / 2 ^ (8 * m) % 256
      go zero g = refl
      go (suc zero) g = refl
      go (suc (suc zero)) g = refl
      go (suc (suc (suc zero))) g = refl
      go (suc (suc (suc (suc m)))) g = absurd (omega arith)

  each-small : Each1 (λ x. x < 256) octets
  each-small = Each1-from_get_or (λ x. x < 256) octets 0 (λ i h. small i (omega (arith, count, h)))

  chunk-small : (i j : ℕ) → i < 4 → get_or (chunk (8 * i) 8 octets) j 0 < 256
  chunk-small i j h = go (cases_lt j 8)
    where
      go : (j < 8) ⊎ (8 ≤ j) → get_or (chunk (8 * i) 8 octets) j 0 < 256
      go (inl a) = subst (λ n. n < 256) (sym (get_or-chunk (8 * i) 8 octets j 0 a))
          (small (8 * i + j) (omega (arith, h, a)))
      go (inr a) = let l = length-chunk (8 * i) 8 octets (omega (arith, count, h)) in
          let e = get_or_past (chunk (8 * i) 8 octets) j 0 (omega (arith, l, a)) in omega (arith, e)

  pub words-spread : (i k : ℕ) → i < 4 → k < 64 → bit_at (get_or (digits_l (2 ^ 64) 4 (number_l 256 octets)) i 0) k
      ≡ cond (eqb (k % 2) 0) 0 (bit_at (get_or words i 0) (k / 2))
  words-spread i k h g =
      let l = length-chunk (8 * i) 8 octets (omega (arith, count, h)) in
      let p : (8 * i + k / 8) / 2 ≡ 4 * i + k / 16 = omega arith in
      let q : k % 8 % 2 ≡ k % 2 = omega arith in
      let r : 8 * (k / 16) + (4 * ((8 * i + k / 8) % 2) + k % 8 / 2) ≡ k / 2 = omega arith in
      ap (λ n. bit_at n k) (get_or_wider 256 8 (2 ^ 64) 4 octets i refl each-small h)
      ∙ number-bit (chunk (8 * i) 8 octets) (λ j. chunk-small i j h) k (omega (arith, l, g))
      ∙ ap (λ n. bit_at n (k % 8)) (get_or-chunk (8 * i) 8 octets (k / 8) 0 (omega (arith, g)))
      ∙ spread (8 * i + k / 8) (k % 8) (omega (arith, h, g)) (omega arith)
      ∙ ap (λ b. cond (eqb b 0) 0 (bit_at (get_or (digits_l 256 16 (number_l (2 ^ 32) words)) ((8 * i + k / 8) / 2) 0)
      (4 * ((8 * i + k / 8) % 2) + k % 8 / 2))) q
      ∙ ap (λ n. cond (eqb (k % 2) 0) 0 n)
      (ap (λ o. bit_at (get_or (digits_l 256 16 (number_l (2 ^ 32) words)) o 0)
      (4 * ((8 * i + k / 8) % 2) + k % 8 / 2)) p
      ∙ octet-of i (k / 16) (4 * ((8 * i + k / 8) % 2) + k % 8 / 2) h (omega (arith, g)) (omega arith)
      ∙ ap (bit_at (get_or words i 0)) r)
