-- Text of cells and separators, by the bits that tell which byte is which.
use Rattle.std.proofs.Common.{◌≡◌, ℕ, zero, suc, ◌-◌, ◌/◌, ◌^◌, ◌<◌, ◌==◌, List, [], ◌∷◌, ◌++◌, Bool, true, false, cond}
use Rattle.std.proofs.Common.{length, max, get_or, refl, sym, ap, ap₂, ◌∙◌, ◌%◌, arith, lit<, map, replicate}
use Rattle.std.specs.Prelude.{bit_or, ◌||◌, if◌then◌else◌}
use Rattle.std.specs.Int.{bit_at}
use Rattle.std.specs.List.{flat_map}
use Rattle.std.specs.Simd.Lanes.{zip2, mask_l, top}
use Rattle.std.proofs.lemmas.Bool.{eqb-true}
use Rattle.std.proofs.lemmas.List.{get_or-map, length-map}
use Rattle.std.proofs.lemmas.Simd.{zip2_splat, zip2_of_maps, map-map, mask_l-mod, bit_mask_l}
use Rattle.std.proofs.lemmas.Nat.{or_lt}
use Rattle.std.proofs.lemmas.Nat.Bits.{bit_at_lowest, bit_at-suc, bit_at_or, bit_at_ones, same_from_bits_below}
use Rattle.aes3_level.specs.declared.level.Level.TheVariants.{Low, High}
use Rattle.aes3_cell.specs.CellText.{Kind, cell, separator, bad, kind_of, is_good, kind_cells, is_good_byte, byte_cells}
use Rattle.aes3_cell.specs.CellText.{good_bytes, good, cells_of_text, IsCellText}
use Rattle.aes3_cell.specs.Scattered.{cell_if, is_separator, kept_cells}
use Rattle.aes3_cell.proofs.CellTexts.{good_bytes-good, good_bytes-bad}

-- text all of whose bytes are good, and the bytes of good text
all-good : (b : List ℕ) → ((i : ℕ) → i < length b → is_good_byte (get_or b i 0) ≡ true) → good_bytes b ≡ b
unfolding good_bytes
all-good [] h = refl
all-good (x ∷ b) h = good_bytes-good x b (h 0 (omega arith))
    ∙ ap (λ c. x ∷ c) (all-good b (λ i g. h (suc i) (omega arith)))

pub good-at : (b : List ℕ) → good b ≡ length b → (i : ℕ) → i < length b → is_good_byte (get_or b i 0) ≡ true
good-at [] e i h = absurd (omega arith)
good-at (x ∷ b) e i h = go (is_good_byte x) refl (good-at b) i h
  where
    go : (p : Bool) → is_good_byte x ≡ p
        → (good b ≡ length b → (i : ℕ) → i < length b → is_good_byte (get_or b i 0) ≡ true)
        → (i : ℕ) → i < length (x ∷ b) → is_good_byte (get_or (x ∷ b) i 0) ≡ true
    go true g next zero h = g
    go true g next (suc i) h = next (let l = ap length (good_bytes-good x b g) in omega arith) i (omega arith)
    go false g next i h = absurd (let l = ap length (good_bytes-bad x b g) in omega arith)

-- the cells of bytes, each by its bits
kept-bytes : (b : List ℕ) (k l : ℕ)
    → ((i : ℕ) → i < length b → cell_if (bit_at k i) (bit_at l i) ≡ byte_cells (get_or b i 0))
    → kept_cells (length b) k l ≡ flat_map byte_cells b
unfolding kept_cells
kept-bytes [] k l h = refl
kept-bytes (x ∷ b) k l h =
    ap₂ ◌++◌ (ap₂ cell_if (sym (bit_at_lowest k)) (sym (bit_at_lowest l)) ∙ h 0 (omega arith))
    (kept-bytes b (k / 2) (l / 2)
    (λ i g. ap₂ cell_if (sym (bit_at-suc k i)) (sym (bit_at-suc l i)) ∙ h (suc i) (omega arith)))

-- the bits of one byte, by what it is
abbrev bit_if : Bool → ℕ
bit_if p = if p then 1 else 0

abbrev kind_by : Bool → Bool → Bool → Kind
kind_by p q r = if p then cell Low else (if q then cell High else (if r then separator else bad))

bits-of : (p q r : Bool) → (p ≡ true → q ≡ true → ⊥)
    → (max (max (bit_if q) (bit_if p)) (bit_if r) ≡ bit_if (is_good (kind_by p q r)))
    × (cell_if (max (bit_if q) (bit_if p)) (bit_if q) ≡ kind_cells (kind_by p q r))
bits-of true true r h = absurd (h refl refl)
bits-of true false true h = (refl, refl)
bits-of true false false h = (refl, refl)
bits-of false true true h = (refl, refl)
bits-of false true false h = (refl, refl)
bits-of false false true h = (refl, refl)
bits-of false false false h = (refl, refl)

-- a lane that is one of three bytes
abbrev hit : ℕ → ℕ → ℕ
hit x y = cond (x == y) 255 0

abbrev any_hit : ℕ → ℕ
any_hit x = bit_or (bit_or (hit x 10) (hit x 13)) (hit x 32)

top-any : (r s t : Bool) → top 7 (bit_or (bit_or (cond r 255 0) (cond s 255 0)) (cond t 255 0)) ≡ (r || (s || t))
top-any true true true = refl
top-any true true false = refl
top-any true false true = refl
top-any true false false = refl
top-any false true true = refl
top-any false true false = refl
top-any false false true = refl
top-any false false false = refl

pub separators-at : (b : List ℕ) → length b ≡ 64 → (i : ℕ) → i < 64
    → bit_at
    (mask_l (map (top 7) (zip2 bit_or (zip2 bit_or (zip2 hit b (replicate 64 10)) (zip2 hit b (replicate 64 13)))
    (zip2 hit b (replicate 64 32)))) % 2 ^ 64)
    i
    ≡ (if is_separator (get_or b i 0) then 1 else 0)
separators-at b len i h =
    let is = λ (y : ℕ). zip2_splat hit b 64 y len in
    let p = λ (x : ℕ). top 7 (any_hit x) in
    let x = get_or b i 0 in
    let lanes = zip2_of_maps bit_or _ _ b (zip2_of_maps bit_or _ _ b (is 10) (is 13)) (is 32) in
    ap (λ l. bit_at (mask_l (map (top 7) l) % 2 ^ 64) i) lanes
    ∙ ap (λ l. bit_at (mask_l l % 2 ^ 64) i) (map-map (top 7) any_hit b)
    ∙ ap (λ m. bit_at m i) (mask_l-mod (map p b) 64 (omega (arith, length-map b p, len)))
    ∙ bit_mask_l (map p b) i
    ∙ ap (λ q. if q then 1 else 0)
    (get_or-map p b i 0 false (omega (arith, len)) ∙ top-any (x == 10) (x == 13) (x == 32))

-- where h tells which bytes are `1`, z which are `0`, and s which are separators
module _ (b : List ℕ) (h z s : ℕ) (len : length b ≡ 64)
    (high : (i : ℕ) → i < 64 → bit_at h i ≡ (if get_or b i 0 == 49 then 1 else 0))
    (low : (i : ℕ) → i < 64 → bit_at z i ≡ (if get_or b i 0 == 48 then 1 else 0))
    (apart : (i : ℕ) → i < 64 → bit_at s i ≡ (if is_separator (get_or b i 0) then 1 else 0)) where
  here : (i : ℕ) → i < 64 →
      (bit_at (bit_or (bit_or h z) s) i ≡ bit_if (is_good_byte (get_or b i 0)))
      × (cell_if (bit_at (bit_or h z) i) (bit_at h i) ≡ byte_cells (get_or b i 0))
  unfolding kind_of
  here i g =
      let x = get_or b i 0 in
      let q = bits-of (x == 48) (x == 49) (is_separator x)
      (λ c d. let e = eqb-true x 48 c in let f = eqb-true x 49 d in omega arith) in
      let c = bit_at_or h z i ∙ ap₂ max (high i g) (low i g) in (
        bit_at_or (bit_or h z) s i ∙ ap₂ max c (apart i g) ∙ q.0,
        ap₂ cell_if c (high i g) ∙ q.1,
      )

  good-here : bit_or (bit_or h z) s ≡ 2 ^ 64 - 1 → (i : ℕ) → i < length b → is_good_byte (get_or b i 0) ≡ true
  good-here e i g =
      is (is_good_byte (get_or b i 0))
      (sym (here i (omega (arith, len, g))).0 ∙ ap (λ v. bit_at v i) e ∙ bit_at_ones 64 i (omega (arith, len, g)))
    where
      is : (p : Bool) → bit_if p ≡ 1 → p ≡ true
      is true e = refl
      is false e = absurd (omega arith)

  pub lawful : bit_or (bit_or h z) s ≡ 2 ^ 64 - 1 → IsCellText b
  lawful e = record { is = ap length (all-good b (good-here e)) }

  pub scattered-cells : bit_or (bit_or h z) s ≡ 2 ^ 64 - 1 → cells_of_text b ≡ kept_cells 64 (bit_or h z) h
  unfolding cells_of_text
  scattered-cells e =
      ap (flat_map byte_cells) (all-good b (good-here e))
      ∙ sym (kept-bytes b (bit_or h z) h (λ i g. (here i (omega (arith, len, g))).1))
      ∙ ap (λ k. kept_cells k (bit_or h z) h) len

  pub all-tell : h < 2 ^ 64 → z < 2 ^ 64 → s < 2 ^ 64 → IsCellText b → bit_or (bit_or h z) s ≡ 2 ^ 64 - 1
  all-tell q r t k =
      same_from_bits_below 64 (bit_or (bit_or h z) s) (2 ^ 64 - 1) (or_lt 64 (bit_or h z) s (or_lt 64 h z q r) t)
      (lit< tt)
      (λ i g. (here i g).0 ∙ ap bit_if (good-at b k.is i (omega (arith, len, g))) ∙ sym (bit_at_ones 64 i g))
