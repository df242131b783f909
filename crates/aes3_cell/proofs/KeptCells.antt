-- Cells kept from among others, four at a time, and numbers that hold cells.
use Rattle.std.proofs.Common.{◌≡◌, ℕ, zero, suc, ◌+◌, ◌-◌, ◌*◌, ◌/◌, ◌%◌, ◌^◌, ◌<◌, ◌≤◌, List, [], ◌∷◌, ◌++◌, Bool}
use Rattle.std.proofs.Common.{true, ◌&&◌, length, get_or, eqb, refl, sym, ap, ap₂, subst, ◌∙◌, arith, lit<, replicate}
use Rattle.std.proofs.Common.{w64, append_assoc, length-append}
use Rattle.std.specs.Prelude.{bit_and, bit_or}
use Rattle.std.specs.Int.{byte_at, to_le_bytes}
use Rattle.std.specs.Simd.Lanes.{zip2}
use Rattle.std.specs.Int.Bits.{or_shifted_r}
use Rattle.std.specs.Int.Count.{ones, ones_step, ones-le}
use Rattle.std.proofs.lemmas.Bool.{agree_below_at, eqb-true, and_parts}
use Rattle.std.proofs.lemmas.Nat.{and_mask, or_shifted, or_lt, shl_below, shr-shr}
use Rattle.std.proofs.lemmas.Nat.Bits.{bit_at_cat_low, bit_at_cat_high}
use Rattle.std.proofs.Math.Nat.{pow-succ'}
use Rattle.std.proofs.Math.Pow.{pow_mono}
use Rattle.aes3_level.specs.declared.level.Level.{Level}
use Rattle.aes3_cell.specs.declared.scattered.TheConstants.{TOGETHER, COUNTS}
use Rattle.aes3_level.specs.Words.{bit_of, low_cells}
use Rattle.aes3_cell.specs.Scattered.{cell_if, kept_cells, Holds}
use Rattle.aes3_level.proofs.WordCells.{low_cells-add, low_cells-same}
use Rattle.aes3_cell.proofs.Octets.{bit_of-lt, level_of-bit_of, lowest-cell, mod-suc}
use Rattle.aes3_level.proofs.Moves.{bit_at-shr}

-- how many cells are kept
length-cell_if : (b c : ℕ) → b < 2 → length (cell_if b c) ≡ b
length-cell_if zero c h = refl
length-cell_if (suc zero) c h = refl
length-cell_if (suc (suc b)) c h = absurd (omega arith)

pub length-kept : (n k l : ℕ) → k < 2 ^ n → length (kept_cells n k l) ≡ ones k
unfolding kept_cells
length-kept zero k l h = let z = ones-le 0 k h in omega arith
length-kept (suc n) k l h =
    let p = pow-succ' 2 n in
    let s = ones_step k in
    let r = length-kept n (k / 2) (l / 2) (omega arith) in
    let a = length-append (cell_if (k % 2) (l % 2)) (kept_cells n (k / 2) (l / 2)) in
    let o = length-cell_if (k % 2) (l % 2) (omega arith) in
    omega arith

pub length-kept-le : (n k l : ℕ) → length (kept_cells n k l) ≤ n
unfolding kept_cells
length-kept-le zero k l = omega arith
length-kept-le (suc n) k l =
    let r = length-kept-le n (k / 2) (l / 2) in
    let a = length-append (cell_if (k % 2) (l % 2)) (kept_cells n (k / 2) (l / 2)) in
    let o = length-cell_if (k % 2) (l % 2) (omega arith) in
    omega arith

-- those of the lowest places, and those of the others
pub kept-add : (m n k l : ℕ) → kept_cells (m + n) k l ≡ kept_cells m k l ++ kept_cells n (k / 2 ^ m) (l / 2 ^ m)
unfolding kept_cells
kept-add zero n k l =
    let a : zero + n ≡ n = omega arith in
    let b : k / 1 ≡ k = omega arith in
    let c : l / 1 ≡ l = omega arith in
    rw (a, b, c) refl
kept-add (suc m) n k l =
    let a : suc m + n ≡ suc (m + n) = omega arith in
    let b : 1 + m ≡ suc m = omega arith in
    ap (λ v. kept_cells v k l) a
    ∙ ap (λ c. cell_if (k % 2) (l % 2) ++ c) (kept-add m n (k / 2) (l / 2)
    ∙ ap₂ (λ u v. kept_cells m (k / 2) (l / 2) ++ kept_cells n u v) (shr-shr k 1 m ∙ ap (λ v. k / 2 ^ v) b)
    (shr-shr l 1 m ∙ ap (λ v. l / 2 ^ v) b))
    ∙ sym (append_assoc (cell_if (k % 2) (l % 2)) (kept_cells m (k / 2) (l / 2))
    (kept_cells n (k / 2 ^ suc m) (l / 2 ^ suc m)))

kept-low : (n k l : ℕ) → kept_cells n (k % 2 ^ n) (l % 2 ^ n) ≡ kept_cells n k l
unfolding kept_cells
kept-low zero k l = refl
kept-low (suc n) k l =
    let a = mod-suc k n in
    let b = mod-suc l n in
    let c : k % 2 ^ suc n % 2 ≡ k % 2 = omega arith in
    let d : l % 2 ^ suc n % 2 ≡ l % 2 = omega arith in
    let e : k % 2 ^ suc n / 2 ≡ k / 2 % 2 ^ n = omega arith in
    let f : l % 2 ^ suc n / 2 ≡ l / 2 % 2 ^ n = omega arith in
    ap₂ ◌++◌ (ap₂ cell_if c d) (ap₂ (kept_cells n) e f ∙ kept-low n (k / 2) (l / 2))

-- four places and those behind them, by the place p in the tables
pub fours : (k l n s t p : ℕ) → t ≡ s + 4 → p ≡ k / 2 ^ s % 16 + 16 * (l / 2 ^ s % 16)
    → kept_cells 4 (p % 16) (p / 16) ++ kept_cells n (k / 2 ^ t) (l / 2 ^ t)
    ≡ kept_cells (4 + n) (k / 2 ^ s) (l / 2 ^ s)
fours k l n s t p e f =
    let a : p % 16 ≡ k / 2 ^ s % 16 = omega arith in
    let b : p / 16 ≡ l / 2 ^ s % 16 = omega arith in
    ap₂ ◌++◌ (ap₂ (kept_cells 4) a b ∙ kept-low 4 (k / 2 ^ s) (l / 2 ^ s))
    (ap₂ (kept_cells n) (ap (λ v. k / 2 ^ v) e ∙ sym (shr-shr k s 4)) (ap (λ v. l / 2 ^ v) e ∙ sym (shr-shr l s 4)))
    ∙ sym (kept-add 4 n (k / 2 ^ s) (l / 2 ^ s))

-- a place in the tables
place-at : (a b : ℕ) → bit_or (bit_and a 15) (b * 2 ^ 4 % 2 ^ 8) ≡ a % 16 + 16 * (b % 16)
place-at a b =
    let s : b * 2 ^ 4 % 2 ^ 8 ≡ b % 16 * 2 ^ 4 = omega arith in
    let o = or_shifted_r (b % 16) 4 (a % 16) (omega arith) in
    ap₂ bit_or (and_mask a 4) s ∙ o ∙ omega arith

pub places-at : (k l i : ℕ) → i < 8
    → get_or (zip2 bit_or (zip2 bit_and (to_le_bytes w64 k) (replicate 8 15))
    (zip2 (λ a b. a * 2 ^ b % 2 ^ 8) (to_le_bytes w64 l) (replicate 8 4))) i 0
    ≡ k / 2 ^ (8 * i) % 16 + 16 * (l / 2 ^ (8 * i) % 16)
places-at k l zero h = place-at (byte_at 0 k) (byte_at 0 l) ∙ omega arith
places-at k l (suc zero) h = place-at (byte_at 1 k) (byte_at 1 l) ∙ omega arith
places-at k l (suc (suc zero)) h = place-at (byte_at 2 k) (byte_at 2 l) ∙ omega arith
places-at k l (suc (suc (suc zero))) h = place-at (byte_at 3 k) (byte_at 3 l) ∙ omega arith
places-at k l (suc (suc (suc (suc zero)))) h = place-at (byte_at 4 k) (byte_at 4 l) ∙ omega arith
places-at k l (suc (suc (suc (suc (suc zero))))) h = place-at (byte_at 5 k) (byte_at 5 l) ∙ omega arith
places-at k l (suc (suc (suc (suc (suc (suc zero)))))) h = place-at (byte_at 6 k) (byte_at 6 l) ∙ omega arith
places-at k l (suc (suc (suc (suc (suc (suc (suc zero))))))) h = place-at (byte_at 7 k) (byte_at 7 l) ∙ omega arith
places-at k l (suc (suc (suc (suc (suc (suc (suc (suc i)))))))) h = absurd (omega arith)

-- all 64
pub all-kept : (k l i w : ℕ) → i ≡ 8 → Holds (kept_cells (8 * i) (k / 2 ^ (64 - 8 * i)) (l / 2 ^ (64 - 8 * i))) w
    → Holds (kept_cells 64 k l) w
all-kept k l i w e h =
    let a : k / 1 ≡ k = omega arith in
    let b : l / 1 ≡ l = omega arith in
    subst (λ c. Holds c w) (ap₂ (kept_cells 64) a b)
    (subst (λ n. Holds (kept_cells (8 * n) (k / 2 ^ (64 - 8 * n)) (l / 2 ^ (64 - 8 * n))) w) e h)

-- the number of cells
abbrev number_of : List Level → ℕ
number_of [] = 0
number_of (level ∷ cells) = 2 * number_of cells + bit_of level

holds-number : (c : List Level) → Holds c (number_of c)
holds-number [] = record { cells_of = refl; bound = lit< tt }
holds-number (level ∷ c) =
    let r = holds-number c in
    let b = bit_of-lt level in
    let o = r.bound in
    let p = pow-succ' 2 (length c) in
    record {
      cells_of = lowest-cell (length c) (2 * number_of c + bit_of level) (number_of c) (bit_of level) b refl
          ∙ ap₂ ◌∷◌ (level_of-bit_of level) r.cells_of;
      bound = omega arith;
    }

-- the tables
abbrev is_four : ℕ → Bool
is_four p = eqb (get_or TOGETHER p 0) (number_of (kept_cells 4 (p % 16) (p / 16))) && eqb (get_or COUNTS p 0)
    (length (kept_cells 4 (p % 16) (p / 16)))

pub record Four (p : ℕ) : Type 0 where
  pub holds : Holds (kept_cells 4 (p % 16) (p / 16)) (get_or TOGETHER p 0)
  pub count : get_or COUNTS p 0 ≡ length (kept_cells 4 (p % 16) (p / 16))

pub four : (p : ℕ) → p < 256 → Four p
unfolding kept_cells
four p h =
    let q = and_parts _ _ (agree_below_at is_four (λ _. true) 256 p refl h) in
    record {
      holds = subst (Holds (kept_cells 4 (p % 16) (p / 16))) (sym (eqb-true (get_or TOGETHER p 0) _ q.0))
          (holds-number (kept_cells 4 (p % 16) (p / 16)));
      count = eqb-true (get_or COUNTS p 0) _ q.1;
    }

-- cells behind others
module _ (a b : List Level) (v w : ℕ) (h : Holds a v) (k : Holds b w) where
  shifted-lt : w * 2 ^ length a < 2 ^ (length b + length a)
  shifted-lt = shl_below w (length b) (length a) k.bound

  front-same : low_cells (length a) (w * 2 ^ length a + v) ≡ a
  front-same = low_cells-same (length a) (w * 2 ^ length a + v) v (λ i g. bit_at_cat_low w (length a) v i g)
      ∙ h.cells_of

  back-same : low_cells (length b) ((w * 2 ^ length a + v) / 2 ^ length a) ≡ b
  back-same =
      low_cells-same (length b) ((w * 2 ^ length a + v) / 2 ^ length a) w
      (λ i g. bit_at-shr (w * 2 ^ length a + v) (length a) i
      ∙ bit_at_cat_high w (length a) v (length a + i) h.bound (omega arith)
      ∙ ap (λ n. w / 2 ^ n % 2) (let e : length a + i - length a ≡ i = omega arith in e))
      ∙ k.cells_of

  holds-join : Holds (a ++ b) (w * 2 ^ length a + v)
  holds-join = record {
    cells_of = ap (λ n. low_cells n (w * 2 ^ length a + v)) (length-append a b)
        ∙ low_cells-add (length a) (length b) (w * 2 ^ length a + v) ∙ ap₂ ◌++◌ front-same back-same;
    bound = subst (λ n. w * 2 ^ length a + v < 2 ^ n) (sym (length-append a b)) below;
  }
    where
      wider : v < 2 ^ (length a + length b)
      wider = let o = h.bound in let m = pow_mono {i = length a} {j = length a + length b} (omega arith) in omega arith

      below : w * 2 ^ length a + v < 2 ^ (length a + length b)
      below = subst (λ n. n < 2 ^ (length a + length b)) (or_shifted w (length a) v h.bound)
          (or_lt (length a + length b) (w * 2 ^ length a) v
          (subst (λ n. w * 2 ^ length a < 2 ^ n)
          (let e : length b + length a ≡ length a + length b = omega arith in e) shifted-lt) wider)

  whole-shift : length a + length b ≤ 64 → w * 2 ^ length a % 2 ^ 64 ≡ w * 2 ^ length a
  whole-shift s = let o = shifted-lt in let m = pow_mono {i = length b + length a} {j = 64} (omega arith) in omega arith

  pub holds-behind : (n : ℕ) → n ≡ length a → length a + length b ≤ 64 → Holds (a ++ b) (bit_or (w * 2 ^ n % 2 ^ 64) v)
  holds-behind n e s =
      subst (Holds (a ++ b)) (sym
      (ap (λ j. bit_or (w * 2 ^ j % 2 ^ 64) v) e ∙ ap (λ x. bit_or x v) (whole-shift s)
      ∙ or_shifted w (length a) v h.bound)) holds-join

-- the cells of a word and their number
pub cells-held : {c : List Level} {w : ℕ} (n : ℕ) → n ≡ length c → Holds c w → low_cells n w ≡ c
cells-held {c} {w} n e h = ap (λ k. low_cells k w) e ∙ h.cells_of
