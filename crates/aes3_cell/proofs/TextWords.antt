-- Words of cells in text.
use Rattle.std.proofs.Common.{◌≡◌, ℕ, zero, suc, ◌-◌, ◌/◌, ◌%◌, ◌^◌, ◌<◌, ◌⊎◌, inl, inr, max, List, length, map, get_or}
use Rattle.std.proofs.Common.{ext_get_or, eq-eqb, ne_eqb, lit<, refl, sym, ap, ◌∙◌, arith}
use Rattle.std.specs.Prelude.{bit_or, ◌==◌, if◌then◌else◌}
use Rattle.std.specs.Int.{bit_at}
use Rattle.std.proofs.lemmas.Bool.{cases_eq}
use Rattle.std.proofs.lemmas.List.{length-map, get_or-map}
use Rattle.std.proofs.lemmas.Nat.{or_lt}
use Rattle.std.proofs.lemmas.Nat.Bits.{bit_at_or, bit_at_ones, bit_at-lt, same_from_bits_below}
use Rattle.std.proofs.Math.Nat.{pow-succ'}
use Rattle.aes3_level.specs.declared.level.Level.{Level}
use Rattle.aes3_level.specs.declared.level.Level.TheVariants.{Low, High}
use Rattle.aes3_level.specs.Words.{level_of, low_cells, word_len, word_cells}
use Rattle.aes3_cell.specs.Text.{byte_of, IsCellByte}
use Rattle.aes3_level.proofs.WordCells.{length-low_cells, low_cells-at}
use Rattle.aes3_cell.proofs.Lines.{level-byte}

-- where the bytes `1` and the bytes `0` are all 64, they are the text of the former
module _ (bytes : List ℕ) (h l : ℕ) (len : length bytes ≡ 64)
    (high : (i : ℕ) → i < 64 → bit_at h i ≡ (if get_or bytes i 0 == 49 then 1 else 0))
    (low : (i : ℕ) → i < 64 → bit_at l i ≡ (if get_or bytes i 0 == 48 then 1 else 0)) where
  pub byte-here : (i : ℕ) → i < 64 → bit_at (bit_or h l) i ≡ 1 → get_or bytes i 0 ≡ byte_of (level_of (bit_at h i))
  byte-here i g e = go (cases_eq (get_or bytes i 0) 49) (cases_eq (get_or bytes i 0) 48)
    where
      one : max (bit_at h i) (bit_at l i) ≡ 1
      one = sym (bit_at_or h l i) ∙ e

      go : (get_or bytes i 0 ≡ 49) ⊎ (get_or bytes i 0 ≡ 49 → ⊥) → (get_or bytes i 0 ≡ 48) ⊎ (get_or bytes i 0 ≡ 48 → ⊥)
          → get_or bytes i 0 ≡ byte_of (level_of (bit_at h i))
      go (inl a) b =
          let t = eq-eqb (get_or bytes i 0) 49 a in
          a ∙ sym (ap (λ n. byte_of (level_of n)) (high i g ∙ ap (λ b. if b then 1 else 0) t))
      go (inr a) (inl b) =
          let t = ne_eqb (get_or bytes i 0) 49 a in
          b ∙ sym (ap (λ n. byte_of (level_of n)) (high i g ∙ ap (λ b. if b then 1 else 0) t))
      go (inr a) (inr b) =
          let t = high i g ∙ ap (λ b. if b then 1 else 0) (ne_eqb (get_or bytes i 0) 49 a) in
          let u = low i g ∙ ap (λ b. if b then 1 else 0) (ne_eqb (get_or bytes i 0) 48 b) in
          absurd (omega (arith, one, t, u))

  pub word-text : bit_or h l ≡ 2 ^ 64 - 1 → bytes ≡ map byte_of (word_cells h)
  unfolding word_cells word_len
  word-text e =
      let n = length-low_cells 64 h in
      let m = length-map (low_cells 64 h) byte_of in
      ext_get_or 0 bytes (map byte_of (low_cells 64 h)) (omega (arith, len, n, m))
      (λ i g. byte-here i (omega (arith, g, len)) (ap (λ n. bit_at n i) e ∙ bit_at_ones 64 i (omega (arith, g, len)))
      ∙ ap byte_of (sym (low_cells-at 64 h i (omega (arith, g, len))))
      ∙ sym (get_or-map byte_of (low_cells 64 h) i Low 0 (omega (arith, g, len, n))))

  -- and are so where they are cells
  pub cell-set : (i : ℕ) → i < 64 → IsCellByte (get_or bytes i 0) → bit_at (bit_or h l) i ≡ 1
  cell-set i g b = bit_at_or h l i ∙ go b
    where
      go : IsCellByte (get_or bytes i 0) → max (bit_at h i) (bit_at l i) ≡ 1
      go (Low, e) =
          let t = low i g ∙ ap (λ b. if b then 1 else 0) (eq-eqb (get_or bytes i 0) 48 e) in
          let u = high i g ∙ ap (λ b. if b then 1 else 0) (ne_eqb (get_or bytes i 0) 49 (λ q. omega (arith, e, q))) in
          omega (arith, t, u)
      go (High, e) =
          let t = high i g ∙ ap (λ b. if b then 1 else 0) (eq-eqb (get_or bytes i 0) 49 e) in
          let u = bit_at-lt l i in
          omega (arith, t, u)

  pub all-set : h < 2 ^ 64 → l < 2 ^ 64 → ((i : ℕ) → i < 64 → IsCellByte (get_or bytes i 0)) → bit_or h l ≡ 2 ^ 64 - 1
  all-set a b cells =
      same_from_bits_below 64 (bit_or h l) (2 ^ 64 - 1) (or_lt 64 h l a b) (lit< tt)
      (λ i g. cell-set i g (cells i g) ∙ sym (bit_at_ones 64 i g))

-- text of cells has no other byte
pub cell-bytes : (bytes : List ℕ) (w i : ℕ) → bytes ≡ map byte_of (word_cells w) → i < 64
    → IsCellByte (get_or bytes i 0)
unfolding word_cells word_len
cell-bytes bytes w i e h = let p = go 64 w i h in (p.0, ap (λ b. get_or b i 0) e ∙ p.1)
  where
    go : (n w i : ℕ) → i < n → (level : Level) × (get_or (map byte_of (low_cells n w)) i 0 ≡ byte_of level)
    go zero w i h = absurd (omega arith)
    go (suc n) w zero h = (level_of (w % 2), refl)
    go (suc n) w (suc i) h = go n (w / 2) i (omega arith)

-- words of the same text are the same
pub same-word : (n a b : ℕ) → a < 2 ^ n → b < 2 ^ n → map byte_of (low_cells n a) ≡ map byte_of (low_cells n b) → a ≡ b
same-word zero a b h k e = omega arith
same-word (suc n) a b h k e =
    let p = pow-succ' 2 n in
    let first : byte_of (level_of (a % 2)) ≡ byte_of (level_of (b % 2)) = cc in
    let others : map byte_of (low_cells n (a / 2)) ≡ map byte_of (low_cells n (b / 2)) = cc in
    let u = level-byte (a % 2) (omega arith) in
    let v = level-byte (b % 2) (omega arith) in
    let r : a / 2 ≡ b / 2 = same-word n (a / 2) (b / 2) (omega arith) (omega arith) others in
    omega arith

pub word-owed : (bytes : List ℕ) (v w : ℕ) → v < 2 ^ 64 → w < 2 ^ 64 → bytes ≡ map byte_of (word_cells v)
    → bytes ≡ map byte_of (word_cells w) → v ≡ w
unfolding word_cells word_len
word-owed bytes v w h k e t = same-word 64 v w h k (sym e ∙ t)
