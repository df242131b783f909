-- Cells in which no preamble ends, and the first that ends one, for a scan.
use Rattle.std.proofs.Common.{◌≡◌, ℕ, suc, ◌+◌, ◌-◌, ◌/◌, ◌^◌, ◌<◌, ◌≤◌, ◌⊎◌, inl, inr, List, [], ◌∷◌, ◌++◌, Bool, true}
use Rattle.std.proofs.Common.{false, cond, ◌||◌, Option, Some, None, refl, length, take, drop, ap, ap₂, ◌∙◌, sym, arith}
use Rattle.std.proofs.Common.{append_assoc, append-nil, take-append-drop, length-drop, w64, add-one}
use Rattle.std.specs.Prelude.{if◌then◌else◌, option_to_list, option_map}
use Rattle.std.specs.Int.{bit_at, trailing_zeros}
use Rattle.std.specs.Int.Count.{trailing_of_zero}
use Rattle.std.proofs.lemmas.Bool.{cases_eq, cases_lt}
use Rattle.std.proofs.lemmas.Nat.{shr_le}
use Rattle.std.proofs.lemmas.Nat.Bits.{bit_at-trailing_zeros}
use Rattle.std.proofs.Math.Seq.{take-add}
use Rattle.aes3_level.specs.declared.level.Level.{Level}
use Rattle.aes3_level.specs.Words.{low_cells, level_of, word_cells}
use Rattle.aes3_level.proofs.Moves.{bit_at-shr}
use Rattle.aes3_level.proofs.WordCells.{length-low_cells, below-trailing}
use Rattle.aes3_slot.specs.declared.mark.Mark.{Mark}
use Rattle.aes3_slot.specs.declared.mark.Mark.TheVariants.{X, Y, Z}
use Rattle.aes3_slot.specs.Preambles.{entry, begins_with, begins_with_any}
use Rattle.aes3_slot.proofs.Beginnings.{any-append}
use Rattle.aes3_lock.specs.Preambles.{first_mark, placed, marks}
use Rattle.aes3_lock.specs.Steps.{last_eight, ended_mark}
use Rattle.aes3_lock.proofs.SubframeWords.{take-low}
use Rattle.aes3_lock.proofs.QuietWords.{says-no, says-yes, ends-at, quiet-at, with-last}
use Rattle.aes3_lock.proofs.Scanning.{ended-short, ended-long, marks-last}

-- whether a preamble begins
pub first-none : (c : List Level) → begins_with_any c ≡ false → first_mark c ≡ None
unfolding begins_with_any first_mark
first-none c = go (begins_with X c) (begins_with Y c) (begins_with Z c) (X, entry c) (Y, entry c) (Z, entry c)
  where
    go : (x y z : Bool) (a b d : Mark × Level) → (x || (y || z)) ≡ false
        → cond {A = Option (Mark × Level)} x (Some a) (cond y (Some b) (cond z (Some d) None)) ≡ None
    go false false false a b d e = refl
    go false false true a b d e = cc
    go false true z a b d e = cc
    go true y z a b d e = cc

first-some : (c : List Level) → begins_with_any c ≡ true → first_mark c ≡ None → ⊥
unfolding begins_with_any first_mark
first-some c = go (begins_with X c) (begins_with Y c) (begins_with Z c) (X, entry c) (Y, entry c) (Z, entry c)
  where
    go : (x y z : Bool) (a b d : Mark × Level) → (x || (y || z)) ≡ true
        → cond {A = Option (Mark × Level)} x (Some a) (cond y (Some b) (cond z (Some d) None)) ≡ None → ⊥
    go false false false a b d e f = cc
    go false false true a b d e f = cc
    go false true z a b d e f = cc
    go true y z a b d e f = cc

ended-none : (n : ℕ) (recent : List Level) → begins_with_any recent ≡ false → ended_mark n recent ≡ None
ended-none n recent h = go (cases_lt n 8)
  where
    go : (n < 8) ⊎ (8 ≤ n) → ended_mark n recent ≡ None
    go (inl g) = ended-short n recent g
    go (inr g) = ended-long n recent g ∙ ap (option_map (placed (n - 8))) (first-none recent h)

ended-some : (n : ℕ) (recent : List Level) → 8 ≤ n → begins_with_any recent ≡ true → ended_mark n recent ≡ None → ⊥
ended-some n recent h b e = go (first_mark recent) (first-some recent b) (sym (ended-long n recent h) ∙ e)
  where
    go : (o : Option (Mark × Level)) → (o ≡ None → ⊥) → option_map (placed (n - 8)) o ≡ None → ⊥
    go None f e = f refl
    go (Some m) f e = cc

-- a list in which none ends
marks-quiet : (c d : List Level) → ((i : ℕ) → i < length d → begins_with_any (last_eight (c ++ take (suc i) d)) ≡ false)
    → marks (c ++ d) ≡ marks c
marks-quiet c [] h = ap marks (append-nil c)
marks-quiet c (l ∷ d) h =
    let rest = marks-quiet (c ++ l ∷ []) d
    (λ i g. ap (λ x. begins_with_any (last_eight x)) (append_assoc c (l ∷ []) (take (suc i) d))
    ∙ h (suc i) (omega arith)) in
    ap marks (sym (append_assoc c (l ∷ []) d)) ∙ rest ∙ marks-last c l
    ∙ ap (λ o. marks c ++ option_to_list o)
    (ended-none (length (c ++ l ∷ [])) (last_eight (c ++ l ∷ [])) (h 0 (omega arith))) ∙ append-nil (marks c)

-- of the cells of a word, by the places where preambles begin in the seven before it and its own
module _ (c b : List Level) (m w : ℕ) (few : m < 2 ^ 64) (is : b ≡ drop 1 (last_eight c) ++ word_cells w)
    (found : (i : ℕ) → i < 64 → bit_at m i ≡ (if begins_with_any (drop i b) then 1 else 0)) where
  pub none-end : (n : ℕ) → n ≤ trailing_zeros w64 m → n ≤ 64 → marks (c ++ low_cells n w) ≡ marks c
  none-end n g h =
      let l = length-low_cells n w in
      marks-quiet c (low_cells n w)
      (λ i k. ap (λ x. begins_with_any (last_eight (c ++ x))) (take-low (suc i) n w (omega (arith, l, k)))
      ∙ quiet-at begins_with_any any-append c b m w few is found i (omega (arith, l, k, g))
      (omega (arith, l, k, h)))

  -- the first that ends one
  pub one-ends : trailing_zeros w64 m < 64 → marks (c ++ low_cells (trailing_zeros w64 m + 1) w)
      ≡ marks c ++ option_to_list
      (ended_mark (length (c ++ low_cells (trailing_zeros w64 m + 1) w))
      (last_eight (c ++ low_cells (trailing_zeros w64 m + 1) w)))
  one-ends h =
      let n = trailing_zeros w64 m in
      let e = with-last c n w in
      ap marks (sym e) ∙ marks-last (c ++ low_cells n w) (level_of (bit_at w n))
      ∙ ap₂ (λ x y. x ++ option_to_list (ended_mark (length y) (last_eight y)))
      (none-end n (omega arith) (omega (arith, h))) e

  -- from the first that ends one to before the second
  pub none-further : (n : ℕ) → trailing_zeros w64 m < n
      → n ≤ trailing_zeros w64 m + 1 + trailing_zeros w64 (m / 2 ^ trailing_zeros w64 m / 2 ^ 1) → n ≤ 64
      → marks (c ++ low_cells n w) ≡ marks (c ++ low_cells (trailing_zeros w64 m + 1) w)
  none-further n more g h =
      ap marks (sym parts)
      ∙ marks-quiet (c ++ low_cells t w) rest (λ i k. ap (λ x. begins_with_any (last_eight x)) (first i k)
      ∙ says-no (begins_with_any (last_eight (c ++ low_cells (suc (trailing_zeros w64 m + suc i)) w)))
      (sym (ends-at begins_with_any any-append c b m w few is found (trailing_zeros w64 m + suc i)
      (omega (arith, long, k, h))) ∙ sym (bits i)
      ∙ below-trailing (m / 2 ^ trailing_zeros w64 m / 2 ^ 1) i small (omega (arith, long, k, g))))
    where
      t : ℕ
      t = trailing_zeros w64 m + 1

      rest : List Level
      rest = drop t (low_cells n w)

      long : length rest ≡ n - t
      long = length-drop t (low_cells n w) ∙ ap (λ k. k - t) (length-low_cells n w)

      front : low_cells t w ≡ take t (low_cells n w)
      front = sym (take-low t n w (omega (arith, more)))

      parts : (c ++ low_cells t w) ++ rest ≡ c ++ low_cells n w
      parts = append_assoc c (low_cells t w) rest
          ∙ ap (λ x. c ++ x) (ap (λ x. x ++ rest) front ∙ take-append-drop t (low_cells n w))

      first : (i : ℕ) → i < length rest
          → (c ++ low_cells t w) ++ take (suc i) rest ≡ c ++ low_cells (suc (trailing_zeros w64 m + suc i)) w
      first i k =
          append_assoc c (low_cells t w) (take (suc i) rest)
          ∙ ap (λ x. c ++ x) (ap (λ x. x ++ take (suc i) rest) front ∙ sym (take-add t (suc i) (low_cells n w))
          ∙ take-low (t + suc i) n w (omega (arith, long, k))
          ∙ ap (λ j. low_cells j w) (let e : t + suc i ≡ suc (trailing_zeros w64 m + suc i) = omega arith in e))

      bits : (i : ℕ) → bit_at (m / 2 ^ trailing_zeros w64 m / 2 ^ 1) i ≡ bit_at m (trailing_zeros w64 m + suc i)
      bits i = bit_at-shr (m / 2 ^ trailing_zeros w64 m) 1 i ∙ bit_at-shr m (trailing_zeros w64 m) (1 + i)
          ∙ ap (λ j. bit_at m (trailing_zeros w64 m + j)) (let e : 1 + i ≡ suc i = omega arith in e)

      small : m / 2 ^ trailing_zeros w64 m / 2 ^ 1 < 2 ^ 64
      small = let a = shr_le m (trailing_zeros w64 m) in let b = shr_le (m / 2 ^ trailing_zeros w64 m) 1 in
          omega (arith, a, b, few)

  pub is-told : (k : ℕ) → trailing_zeros w64 m < 64 → 8 ≤ k
      → ended_mark k (last_eight (c ++ low_cells (trailing_zeros w64 m + 1) w)) ≡ None → ⊥
  is-told k h g = ended-some k (last_eight (c ++ low_cells (trailing_zeros w64 m + 1) w)) g (go (cases_eq m 0))
    where
      n : ℕ
      n = trailing_zeros w64 m

      go : (m ≡ 0) ⊎ (m ≡ 0 → ⊥) → begins_with_any (last_eight (c ++ low_cells (n + 1) w)) ≡ true
      go (inl z) = absurd (let t = ap (trailing_zeros w64) z ∙ trailing_of_zero 64 in omega (arith, t, h))
      go (inr s) =
          let z = bit_at-trailing_zeros w64 m (omega (arith, s)) few in
          ap (λ k. begins_with_any (last_eight (c ++ low_cells k w))) (add-one n)
          ∙ says-yes _ (sym (ends-at begins_with_any any-append c b m w few is found n z.0) ∙ z.1)
