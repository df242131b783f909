-- The bits of bytes that are cells or separators.
use Rattle.std.proofs.Common.{◌≡◌, ◌==◌, ℕ, ◌+◌, ◌*◌, ◌/◌, ◌%◌, ◌^◌, ◌<◌, ◌≤◌, ◌++◌, Bool, true, false, sym, ap, ap₂}
use Rattle.std.proofs.Common.{subst, ◌∙◌, refl, arith, [], lit≤, add-zero, append-nil}
use Rattle.std.specs.Prelude.{bit_and, bit_or, ◌||◌, if◌then◌else◌}
use Rattle.std.specs.Int.Bits.{or_zero_r}
use Rattle.std.proofs.lemmas.Bool.{eqb-true}
use Rattle.std.proofs.lemmas.Nat.{pow-add}
use Rattle.aes3_level.specs.declared.level.Level.TheVariants.{Low, High}
use Rattle.aes3_level.specs.Words.{low_cells}
use Rattle.aes3_cell.specs.CellText.{cell, separator, bad, kind_of, is_good, is_good_byte, byte_cells}
use Rattle.aes3_level.proofs.WordCells.{low_cells-low, low_cells-high, with_bit-lt}

good-cases : (x : ℕ) → is_good_byte x ≡ true → (P : ℕ → Type 0) → P 48 → P 49 → P 10 → P 13 → P 32 → P x
unfolding kind_of
good-cases x g P a b c d e = go (x == 48) (x == 49) (x == 10) (x == 13) (x == 32) refl refl refl refl refl g
  where
    go : (p q r s t : Bool) → (x == 48) ≡ p → (x == 49) ≡ q → (x == 10) ≡ r → (x == 13) ≡ s → (x == 32) ≡ t
        → is_good (if p then cell Low else (if q then cell High else (if r || (s || t) then separator else bad))) ≡ true
        → P x
    go true q r s t i j k l m h = subst P (sym (eqb-true x 48 i)) a
    go false true r s t i j k l m h = subst P (sym (eqb-true x 49 j)) b
    go false false true s t i j k l m h = subst P (sym (eqb-true x 10 k)) c
    go false false false true t i j k l m h = subst P (sym (eqb-true x 13 l)) d
    go false false false false true i j k l m h = subst P (sym (eqb-true x 32 m)) e
    go false false false false false i j k l m h = absurd cc

-- the word and the number of n cells w and that of a byte
abbrev word_with : ℕ → ℕ → ℕ → ℕ
word_with n w x = bit_or w (bit_and (bit_and x (x / 2 ^ 5)) 1 * 2 ^ n % 2 ^ 64)

abbrev count_with : ℕ → ℕ → ℕ
count_with n x = n + bit_and (x / 2 ^ 4) 1

pub record CellAdded (n w x : ℕ) : Type 0 where
  pub cells : low_cells (count_with n x) (word_with n w x) ≡ low_cells n w ++ byte_cells x
  pub bound : word_with n w x < 2 ^ count_with n x
  pub one : bit_and (x / 2 ^ 4) 1 ≤ 1

module _ (n w : ℕ) (few : n < 64) (bound : w < 2 ^ n) where
  same : bit_or w (0 * 2 ^ n % 2 ^ 64) ≡ w
  same = ap (bit_or w) (let z : 0 * 2 ^ n % 2 ^ 64 ≡ 0 = omega arith in z) ∙ or_zero_r w

  none : (x : ℕ) → word_with n w x ≡ bit_or w (0 * 2 ^ n % 2 ^ 64) → count_with n x ≡ n + 0 → bit_and (x / 2 ^ 4) 1 ≤ 1
      → byte_cells x ≡ [] → CellAdded n w x
  none x e f g h = record {
    cells = ap₂ (λ k v. low_cells k v) (f ∙ add-zero n) (e ∙ same)
        ∙ sym (ap (λ c. low_cells n w ++ c) h ∙ append-nil (low_cells n w));
    bound = subst (λ v. v < 2 ^ count_with n x) (sym (e ∙ same)) (subst (λ k. w < 2 ^ k) (sym (f ∙ add-zero n)) bound);
    one = g;
  }

  low : CellAdded n w 48
  unfolding kind_of
  low = record {
    cells = ap (low_cells (n + 1)) same ∙ low_cells-low n w bound;
    bound = subst (λ v. v < 2 ^ (n + 1)) (sym same) (let q = pow-add 2 n 1 in omega (arith, bound, q));
    one = lit≤ tt;
  }

  high : CellAdded n w 49
  unfolding kind_of
  high = record { cells = low_cells-high n w few; bound = with_bit-lt n w few bound; one = lit≤ tt }

  line_feed : CellAdded n w 10
  unfolding kind_of
  line_feed = none 10 refl refl (lit≤ tt) refl

  return : CellAdded n w 13
  unfolding kind_of
  return = none 13 refl refl (lit≤ tt) refl

  space : CellAdded n w 32
  unfolding kind_of
  space = none 32 refl refl (lit≤ tt) refl

  cell-added : (x : ℕ) → is_good_byte x ≡ true → CellAdded n w x
  cell-added x g = good-cases x g (CellAdded n w) low high line_feed return space

  -- by the bits h and k of the byte
  pub cells-added : (x h k : ℕ) → is_good_byte x ≡ true → h ≡ bit_and (bit_and x (x / 2 ^ 5)) 1
      → k ≡ bit_and (x / 2 ^ 4) 1
      → (low_cells (n + k) (bit_or w (h * 2 ^ n % 2 ^ 64)) ≡ low_cells n w ++ byte_cells x)
      × (bit_or w (h * 2 ^ n % 2 ^ 64) < 2 ^ (n + k)) × (k ≤ 1)
  cells-added x h k g e f =
      let a = cell-added x g in
      rw (e, f) (a.cells, a.bound, a.one)
