-- The levels that a word begins with.
use Rattle.std.proofs.Common.{◌≡◌, ℕ, zero, suc, ◌+◌, ◌-◌, ◌/◌, ◌%◌, ◌^◌, ◌<◌, ◌≤◌, ◌⊎◌, inl, inr, min, not}
use Rattle.std.proofs.Common.{◌∷◌, ◌++◌, Bool, true, false, replicate, refl, sym, ap, ap₂, ◌∙◌, arith, w64}
use Rattle.std.specs.Int.{bit_at, trailing_zeros, bit_not}
use Rattle.std.specs.Int.Count.{trailing_of_zero}
use Rattle.std.proofs.lemmas.Bool.{cases_eq}
use Rattle.std.proofs.lemmas.Nat.Bits.{bit_at-trailing_zeros, bit_at-zero, bit_at_lowest, bit_at-suc}
use Rattle.std.proofs.lemmas.Nat.Bits.{bit_at-lt, bit_at_not}
use Rattle.aes3_level.specs.declared.level.Level.{Level}
use Rattle.aes3_level.specs.declared.level.Level.TheVariants.{Low, High}
use Rattle.aes3_level.specs.Cells.{other}
use Rattle.aes3_level.specs.Words.{level_of, low_cells}
use Rattle.aes3_level.proofs.WordCells.{low_cells-add, below-trailing}
use Rattle.aes3_capture_recovery.specs.Endings.{level_if}

lowest : (m : ℕ) → m < 2 ^ 64 → trailing_zeros w64 m < 64 → bit_at m (trailing_zeros w64 m) ≡ 1
lowest m few h = go (cases_eq m 0)
  where
    go : (m ≡ 0) ⊎ (m ≡ 0 → ⊥) → bit_at m (trailing_zeros w64 m) ≡ 1
    go (inl z) = absurd (let t = ap (trailing_zeros w64) z ∙ trailing_of_zero 64 in omega (arith, t, h))
    go (inr s) = (bit_at-trailing_zeros w64 m (omega (arith, s)) few).1

most-zeros : (m : ℕ) → m < 2 ^ 64 → trailing_zeros w64 m ≤ 64
most-zeros m few = go (cases_eq m 0)
  where
    go : (m ≡ 0) ⊎ (m ≡ 0 → ⊥) → trailing_zeros w64 m ≤ 64
    go (inl z) = let t = ap (trailing_zeros w64) z ∙ trailing_of_zero 64 in omega (arith, t)
    go (inr s) = let t = (bit_at-trailing_zeros w64 m (omega (arith, s)) few).0 in omega (arith, t)

-- a word whose lowest bits stand for one level
pub all-level : (n w : ℕ) (s : Level) → ((i : ℕ) → i < n → level_of (bit_at w i) ≡ s) → low_cells n w ≡ replicate n s
all-level zero w s h = refl
all-level (suc n) w s h =
    ap₂ (λ a c. a ∷ c) (ap level_of (sym (bit_at_lowest w)) ∙ h 0 (omega arith))
    (all-level n (w / 2) s (λ i g. ap level_of (sym (bit_at-suc w i)) ∙ h (suc i) (omega (arith, g))))

pub low-same : (w n : ℕ) → w < 2 ^ 64 → n ≤ trailing_zeros w64 w → low_cells n w ≡ replicate n Low
low-same w n few h = all-level n w Low (λ i g. ap level_of (below-trailing w i few (omega (arith, g, h))))

pub low-next : (w : ℕ) → w < 2 ^ 64 → trailing_zeros w64 w < 64 → level_of (bit_at w (trailing_zeros w64 w)) ≡ High
low-next w few h = ap level_of (lowest w few h)

-- a bit and the one of the inverted word
one-inverted : (w i : ℕ) → w < 2 ^ 64 → i < 64 → bit_at (bit_not w64 w) i ≡ 0 → bit_at w i ≡ 1
one-inverted w i few h e =
    let n : 1 - bit_at w i ≡ 0 = sym (bit_at_not w64 w i few h) ∙ e in
    let t = bit_at-lt w i in
    omega (arith, n, t)

none-inverted : (w i : ℕ) → w < 2 ^ 64 → i < 64 → bit_at (bit_not w64 w) i ≡ 1 → bit_at w i ≡ 0
none-inverted w i few h e =
    let n : 1 - bit_at w i ≡ 1 = sym (bit_at_not w64 w i few h) ∙ e in
    let t = bit_at-lt w i in
    omega (arith, n, t)

pub high-same : (w n : ℕ) → w < 2 ^ 64 → n ≤ trailing_zeros w64 (bit_not w64 w) → low_cells n w ≡ replicate n High
high-same w n few h =
    let small : bit_not w64 w < 2 ^ 64 = omega arith in
    let long : trailing_zeros w64 (bit_not w64 w) ≤ 64 = most-zeros (bit_not w64 w) small in
    all-level n w High
    (λ i g. ap level_of (one-inverted w i few (omega (arith, g, h, long))
    (below-trailing (bit_not w64 w) i small (omega (arith, g, h)))))

pub high-next : (w : ℕ) → w < 2 ^ 64 → trailing_zeros w64 (bit_not w64 w) < 64
    → level_of (bit_at w (trailing_zeros w64 (bit_not w64 w))) ≡ Low
high-next w few h =
    let small : bit_not w64 w < 2 ^ 64 = omega arith in
    ap level_of (none-inverted w (trailing_zeros w64 (bit_not w64 w)) few h (lowest (bit_not w64 w) small h))

pub level-not : (b : Bool) → level_if (not b) ≡ other (level_if b)
level-not true = refl
level-not false = refl

-- the first level of some
first-level : (k w : ℕ) (s : Level) → level_of (w % 2) ≡ s → low_cells (suc k) w ≡ s ∷ low_cells k (w / 2)
first-level k w s e = ap (λ a. a ∷ low_cells k (w / 2)) e

-- levels of one kind, then the other, and what is left
pub split-levels : (w len n same : ℕ) (s : Level) → n ≡ min same len → (n ≡ len → ⊥) → same ≤ 64 → len ≤ 64
    → ((k : ℕ) → k ≤ same → low_cells k w ≡ replicate k s) → (same < 64 → level_of (bit_at w same) ≡ other s)
    → low_cells len w ≡ replicate n s ++ other s ∷ low_cells (len - n - 1) (w / 2 ^ n / 2)
split-levels w len n same s is apart most few all next =
    let less : n < len = omega (arith, is, apart) in
    let at : n ≡ same = omega (arith, is, less) in
    let sum : len ≡ n + suc (len - n - 1) = omega (arith, less) in
    ap (λ k. low_cells k w) sum ∙ low_cells-add n (suc (len - n - 1)) w
    ∙ ap₂ (λ a c. a ++ c) (all n (omega (arith, at)))
    (first-level (len - n - 1) (w / 2 ^ n) (other s)
    (ap (λ k. level_of (bit_at w k)) at ∙ next (omega (arith, at, less, few))))

pub split-count : (len n same : ℕ) → n ≡ min same len → (n ≡ len → ⊥) → len ≡ n + (1 + (len - n - 1))
split-count len n same is apart = omega (arith, is, apart)
