-- Cells put behind others, and the words that they make.
use Rattle.std.proofs.Common.{◌≡◌, ℕ, ◌+◌, ◌-◌, ◌*◌, ◌/◌, ◌%◌, ◌^◌, ◌<◌, ◌≤◌, List, [], ◌++◌, Bool, true, false, length}
use Rattle.std.proofs.Common.{take, set, max, sym, ap, ap₂, subst, ◌∙◌, arith, append_assoc}
use mir.Val.{bool_byte}
use Rattle.std.specs.Prelude.{bit_or, if◌then◌else◌}
use Rattle.std.specs.Int.{bit_at}
use Rattle.std.specs.List.{flat_map}
use Rattle.std.proofs.lemmas.List.{take-set}
use Rattle.std.proofs.lemmas.Nat.{or_lt, shl_below, shr-shr}
use Rattle.std.proofs.lemmas.Nat.Bits.{bit_at_or, bit_at_above}
use Rattle.std.proofs.Math.Pow.{pow_mono, shr_lt}
use Rattle.aes3_level.specs.declared.level.Level.{Level}
use Rattle.aes3_level.specs.Words.{low_cells, word_len, word_cells}
use Rattle.aes3_level.proofs.WordCells.{low_cells-add, low_cells-same}
use Rattle.aes3_level.proofs.Moves.{bit_at-shr, shl-below, shl-above}
use Rattle.aes3_level.proofs.WordLists.{words-more}

-- the first cells of a word, and the others
cells-parted : (w i n : ℕ) → i ≤ n → low_cells n w ≡ low_cells i w ++ low_cells (n - i) (w / 2 ^ i)
cells-parted w i n h = ap (λ k. low_cells k w) (let e : n ≡ i + (n - i) = omega arith in e) ∙ low_cells-add i (n - i) w

-- n cells and others behind them, in 64 bits
module _ (n v w : ℕ) (bound : v < 2 ^ n) (few : n < 64) where
  abbrev both : ℕ
  both = bit_or v (w * 2 ^ n % 2 ^ 64)

  front-bit : (i : ℕ) → i < n → bit_at both i ≡ bit_at v i
  front-bit i h =
      let z = shl-below w n i (omega arith) h in
      bit_at_or v (w * 2 ^ n % 2 ^ 64) i ∙ ap (max (bit_at v i)) z ∙ omega arith

  back-bit : (i : ℕ) → n + i < 64 → bit_at (both / 2 ^ n) i ≡ bit_at w i
  back-bit i h =
      let z = bit_at_above v n (n + i) bound (omega arith) in
      let e : n + i - n ≡ i = omega arith in
      bit_at-shr both n i ∙ bit_at_or v (w * 2 ^ n % 2 ^ 64) (n + i)
      ∙ ap₂ max z (shl-above w n (n + i) h (omega arith) ∙ ap (bit_at w) e) ∙ omega arith

  pub cells-behind : (m : ℕ) → n + m ≤ 64 → low_cells (n + m) both ≡ low_cells n v ++ low_cells m w
  cells-behind m h =
      low_cells-add n m both ∙ ap₂ ◌++◌ (low_cells-same n both v front-bit)
      (low_cells-same m (both / 2 ^ n) w (λ i g. back-bit i (omega arith)))

  pub behind-lt : (m : ℕ) → w < 2 ^ m → both < 2 ^ (n + m)
  behind-lt m h =
      or_lt (n + m) v (w * 2 ^ n % 2 ^ 64) (let p = pow_mono {i = n} {j = n + m} (omega arith) in omega arith)
      (let s = subst (λ k. w * 2 ^ n < 2 ^ k) (let e : m + n ≡ n + m = omega arith in e) (shl_below w m n h)
      in omega arith)

  -- a whole word, and what stands behind it
  pub word-whole : (m : ℕ) → 64 ≤ n + m
      → word_cells both ++ low_cells (n + m - 64) (w / 2 / 2 ^ (63 - n)) ≡ low_cells n v ++ low_cells m w
  unfolding word_cells word_len
  word-whole m h =
      let k = 64 - n in
      let a : n + k ≡ 64 = omega arith in
      let b : 1 + (63 - n) ≡ k = omega arith in
      let d : n + m - 64 ≡ m - k = omega arith in
      ap₂ ◌++◌ (sym (ap (λ j. low_cells j both) a) ∙ cells-behind k (omega arith))
      (ap₂ low_cells d (shr-shr w 1 (63 - n) ∙ ap (λ j. w / 2 ^ j) b))
      ∙ append_assoc (low_cells n v) (low_cells k w) (low_cells (m - k) (w / 2 ^ k))
      ∙ ap (λ c. low_cells n v ++ c) (sym (cells-parted w k m (omega arith)))

  pub whole-lt : (m : ℕ) → 64 ≤ n + m → w < 2 ^ m → w / 2 / 2 ^ (63 - n) < 2 ^ (n + m - 64)
  whole-lt m h g =
      let e : n + m - 64 + (64 - n) ≡ m = omega arith in
      let b : 1 + (63 - n) ≡ 64 - n = omega arith in
      subst (λ x. x < 2 ^ (n + m - 64)) (sym (shr-shr w 1 (63 - n) ∙ ap (λ j. w / 2 ^ j) b))
      (shr_lt (n + m - 64) (64 - n) (subst (λ j. w < 2 ^ j) (sym e) g))

-- one more word, or none
pub words-joined : (ws : List ℕ) (i n w : ℕ) (full : Bool) (rest more left : List Level) → i < length ws
    → n ≡ bool_byte full
    → (if full then word_cells w else []) ++ left ≡ rest ++ more
    → (flat_map word_cells (take i ws) ++ rest) ++ more ≡ flat_map word_cells (take (i + n) (set ws i w)) ++ left
words-joined ws i n w true rest more left h k e =
    append_assoc (flat_map word_cells (take i ws)) rest more ∙ ap (λ c. flat_map word_cells (take i ws) ++ c) (sym e)
    ∙ sym (append_assoc (flat_map word_cells (take i ws)) (word_cells w) left)
    ∙ ap (λ c. c ++ left) (sym (words-more ws i w h)
    ∙ ap (λ j. flat_map word_cells (take (i + j) (set ws i w))) (sym k))
words-joined ws i n w false rest more left h k e =
    let z : i ≡ i + n = omega (arith, k) in
    append_assoc (flat_map word_cells (take i ws)) rest more ∙ ap (λ c. flat_map word_cells (take i ws) ++ c) (sym e)
    ∙ ap (λ v. flat_map word_cells v ++ left) (sym (take-set ws i w) ∙ ap (λ j. take j (set ws i w)) z)

pub one-or-none : (n : ℕ) (full : Bool) → n ≡ bool_byte full → n ≤ 1
one-or-none n true e = omega (arith, e)
one-or-none n false e = omega (arith, e)
