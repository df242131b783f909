-- Cells in words, by their bits.
use Rattle.std.proofs.Common.{◌≡◌, ℕ, zero, suc, ◌+◌, ◌*◌, ◌/◌, ◌%◌, ◌^◌, ◌<◌, [], ◌∷◌, ◌++◌, length, take, drop, min}
use Rattle.std.proofs.Common.{◌⊎◌, inl, inr, get_or, refl, sym, ap, ap₂, ◌∙◌, arith, add-one, w64}
use Rattle.std.specs.Prelude.{bit_or}
use Rattle.std.specs.Int.{bit_at, trailing_zeros}
use Rattle.std.specs.Int.Bits.{or_shifted_r}
use Rattle.std.proofs.lemmas.Bool.{cases_eq}
use Rattle.std.proofs.lemmas.List.{drop_at, take_at}
use Rattle.std.proofs.lemmas.Nat.{one_shl, shr-shr, and_mask}
use Rattle.std.proofs.lemmas.Nat.Bits.{bit_at_lowest, bit_at-suc, bit_at_above, bit_at_set_same, bit_at_set_other}
use Rattle.std.proofs.lemmas.Nat.Bits.{bit_at_and, bit_at_ones, bit_at-lt, bit_at-trailing_zeros, bit_at-zero}
use Rattle.std.proofs.Math.Nat.{pow-succ'}
use Rattle.aes3_level.specs.declared.level.Level.TheVariants.{Low, High}
use Rattle.aes3_level.specs.Words.{level_of, low_cells, word_len, word_cells}

pub word_len_64 : word_len ≡ 64
unfolding word_len
word_len_64 = refl

pub length-low_cells : (n w : ℕ) → length (low_cells n w) ≡ n
length-low_cells zero w = refl
length-low_cells (suc n) w = ap suc (length-low_cells n (w / 2))

pub length-word_cells : (w : ℕ) → length (word_cells w) ≡ word_len
unfolding word_cells
length-word_cells w = length-low_cells word_len w

-- one more bit
pub low_cells-suc : (n w : ℕ) → low_cells (suc n) w ≡ low_cells n w ++ level_of (bit_at w n) ∷ []
low_cells-suc zero w = ap (λ b. level_of b ∷ []) (sym (bit_at_lowest w))
low_cells-suc (suc n) w =
    ap (λ c. level_of (w % 2) ∷ c)
    (low_cells-suc n (w / 2) ∙ ap (λ b. low_cells n (w / 2) ++ level_of b ∷ []) (sym (bit_at-suc w n)))

-- the lowest cells and those behind them
pub low_cells-add : (m n w : ℕ) → low_cells (m + n) w ≡ low_cells m w ++ low_cells n (w / 2 ^ m)
low_cells-add zero n w =
    let a : zero + n ≡ n = omega arith in
    let b : w / 1 ≡ w = omega arith in
    rw (a, b) refl
low_cells-add (suc m) n w =
    let a : suc m + n ≡ suc (m + n) = omega arith in
    let b : 1 + m ≡ suc m = omega arith in
    ap (λ k. low_cells k w) a
    ∙ ap (λ c. level_of (w % 2) ∷ c)
    (low_cells-add m n (w / 2)
    ∙ ap (λ v. low_cells m (w / 2) ++ low_cells n v) (shr-shr w 1 m ∙ ap (λ k. w / 2 ^ k) b))

pub drop-low_cells : (m n w : ℕ) → drop m (low_cells (m + n) w) ≡ low_cells n (w / 2 ^ m)
drop-low_cells m n w = ap (drop m) (low_cells-add m n w)
    ∙ drop_at (low_cells m w) (low_cells n (w / 2 ^ m)) m (length-low_cells m w)

pub take-low_cells : (m n w : ℕ) → take m (low_cells (m + n) w) ≡ low_cells m w
take-low_cells m n w = ap (take m) (low_cells-add m n w)
    ∙ take_at (low_cells m w) (low_cells n (w / 2 ^ m)) m (length-low_cells m w)

-- the lowest bits alone count
pub low_cells-same : (n a b : ℕ) → ((i : ℕ) → i < n → bit_at a i ≡ bit_at b i) → low_cells n a ≡ low_cells n b
low_cells-same zero a b h = refl
low_cells-same (suc n) a b h =
    ap₂ (λ bit c. level_of bit ∷ c) (sym (bit_at_lowest a) ∙ h 0 (omega arith) ∙ bit_at_lowest b)
    (low_cells-same n (a / 2) (b / 2) (λ i lt. sym (bit_at-suc a i) ∙ h (suc i) (omega arith) ∙ bit_at-suc b i))

pub low_cells-mod : (w : ℕ) → low_cells 8 (w % 256) ≡ low_cells 8 w
low_cells-mod w =
    low_cells-same 8 (w % 256) w (λ i h.
    let b = bit_at-lt w i in
    ap (λ n. bit_at n i) (sym (and_mask w 8)) ∙ bit_at_and w 255 i ∙ ap (min (bit_at w i)) (bit_at_ones 8 i h)
    ∙ omega (arith, b))

-- cell i is bit i
pub low_cells-at : (n w i : ℕ) → i < n → get_or (low_cells n w) i Low ≡ level_of (bit_at w i)
low_cells-at zero w i h = absurd (omega arith)
low_cells-at (suc n) w zero h = ap level_of (sym (bit_at_lowest w))
low_cells-at (suc n) w (suc i) h = low_cells-at n (w / 2) i (omega arith) ∙ ap level_of (sym (bit_at-suc w i))

-- a cell put behind the cells of a word
pub low_cells-low : (n w : ℕ) → w < 2 ^ n → low_cells (n + 1) w ≡ low_cells n w ++ Low ∷ []
low_cells-low n w h =
    ap (λ k. low_cells k w) (add-one n) ∙ low_cells-suc n w
    ∙ ap (λ b. low_cells n w ++ level_of b ∷ []) (bit_at_above w n n h (omega arith))

pub low_cells-high : (n w : ℕ) → n < 64 → low_cells (n + 1) (bit_or w (1 * 2 ^ n % 2 ^ 64)) ≡ low_cells n w ++ High ∷ []
low_cells-high n w h =
    let v = bit_or w (1 * 2 ^ n % 2 ^ 64) in
    ap (λ k. low_cells k v) (add-one n) ∙ low_cells-suc n v
    ∙ ap₂ (λ c b. c ++ level_of b ∷ []) (low_cells-same n v w (λ i lt. bit_at_set_other w64 w n h i (λ e. omega arith)))
    (bit_at_set_same w64 w n h)

pub with_bit-lt : (n w : ℕ) → n < 64 → w < 2 ^ n → bit_or w (1 * 2 ^ n % 2 ^ 64) < 2 ^ (n + 1)
with_bit-lt n w h lt =
    let e : bit_or w (1 * 2 ^ n % 2 ^ 64) ≡ 1 * 2 ^ n + w =
    ap (λ x. bit_or w x) (one_shl n 64 h ∙ one-times) ∙ or_shifted_r 1 n w lt in
    let p : 2 ^ (n + 1) ≡ 2 * 2 ^ n = ap (λ k. 2 ^ k) (add-one n) ∙ pow-succ' 2 n in
    omega arith
  where
    one-times : 2 ^ n ≡ 1 * 2 ^ n
    one-times = omega arith

-- the bits below the lowest one are zeros
pub below-trailing : (m i : ℕ) → m < 2 ^ 64 → i < trailing_zeros w64 m → bit_at m i ≡ 0
below-trailing m i few g = go (cases_eq m 0)
  where
    go : (m ≡ 0) ⊎ (m ≡ 0 → ⊥) → bit_at m i ≡ 0
    go (inl z) = ap (λ x. bit_at x i) z ∙ bit_at-zero i
    go (inr s) = (bit_at-trailing_zeros w64 m (omega (arith, s)) few).2 i g
