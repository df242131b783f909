-- Octets with their bits in the opposite order, by two tables.
use Rattle.std.proofs.Common.{◌≡◌, ℕ, ◌+◌, ◌-◌, ◌*◌, ◌/◌, ◌^◌, ◌<◌, ◌≤◌, List, [], ◌∷◌, Bool, true, length, map, get_or}
use Rattle.std.proofs.Common.{replicate, reverse, eqb, bit_and, bit_or, ext_get_or, refl, sym, ap, ap₂, ◌∙◌, arith, w8}
use Rattle.std.proofs.Common.{Fits}
use Rattle.std.specs.Simd.Lanes.{zip2, Each1}
use Rattle.std.proofs.lemmas.Bool.{agree_below, agree_below_at, eqb-true}
use Rattle.std.proofs.lemmas.List.{length-map, get_or-map, reverse-reverse}
use Rattle.std.proofs.lemmas.Nat.{and_le_r}
use Rattle.std.proofs.lemmas.Simd.{swz_l, SwzOk, SwzOk-from_below, length-swz_l, get_or-swz_l_below, get_or-zip2}
use Rattle.std.proofs.lemmas.Simd.{length-zip2, get_or-replicate, Each1-all, Each1-weaker, Each1-zip2, Each2-splat}
use Rattle.std.proofs.lemmas.Simd.{Each1-get_or, below_from_Fits}
use Rattle.aes3_cell.specs.declared.eights.TheConstants.{FROM_LOW, FROM_HIGH}
use Rattle.aes3_level.specs.declared.level.Level.{Level}
use Rattle.aes3_level.specs.declared.level.Level.TheVariants.{Low, High}
use Rattle.aes3_level.specs.Words.{low_cells}
use Rattle.aes3_cell.specs.Packed.{octet_cells, octet_of, weight}
use Rattle.aes3_cell.proofs.Octets.{octet_cells-octet_of}
use Rattle.aes3_level.proofs.WordCells.{length-low_cells}

-- the places that the two tables are read at
abbrev pub low_four : List ℕ → List ℕ
low_four v = zip2 bit_and v (replicate 64 15)

abbrev pub high_four : List ℕ → List ℕ
high_four v = zip2 (λ a b. a / 2 ^ b) v (replicate 64 4)

pub low_four-ok : (v : List ℕ) → length v ≡ 64 → SwzOk w8 16 64 0 (low_four v)
low_four-ok v l =
    let small = Each1-all (λ a. bit_and a 15 < 16) (λ a. omega (arith, and_le_r a 15)) v in
    SwzOk-from_below w8 16 4 64 0 (low_four v) refl (omega (arith, length-zip2 bit_and v (replicate 64 15) l))
    (Each1-zip2 bit_and (λ j. j < 16) v (replicate 64 15) (Each2-splat (λ a b. bit_and a b < 16) v 64 15 small))

pub high_four-ok : (v : List ℕ) → length v ≡ 64 → Each1 (Fits w8) v → SwzOk w8 16 64 0 (high_four v)
high_four-ok v l f =
    let small = Each1-weaker (λ a. a < 256) (λ a. a / 16 < 16) (λ a h. omega arith) v (below_from_Fits w8 v f) in
    SwzOk-from_below w8 16 4 64 0 (high_four v) refl
    (omega (arith, length-zip2 (λ a b. a / 2 ^ b) v (replicate 64 4) l))
    (Each1-zip2 (λ a b. a / 2 ^ b) (λ j. j < 16) v (replicate 64 4) (Each2-splat (λ a b. a / 2 ^ b < 16) v 64 4 small))

-- an octet with its bits in the opposite order, and its cells
abbrev pub turned_octet : ℕ → ℕ
turned_octet x = octet_of (low_cells 8 x)

pub octet_cells-turned : (x : ℕ) → octet_cells (turned_octet x) ≡ low_cells 8 x
octet_cells-turned x = octet_cells-octet_of (low_cells 8 x) (length-low_cells 8 x)

pub low_cells-turned : (x : ℕ) → low_cells 8 (turned_octet x) ≡ octet_cells x
low_cells-turned x = sym (reverse-reverse (low_cells 8 (turned_octet x))) ∙ ap reverse (octet_cells-turned x)

pub weight-le : (w : ℕ) (c : List Level) → weight w c ≤ 2 * w - 1
weight-le w [] = omega arith
weight-le w (Low ∷ c) = let r = weight-le (w / 2) c in omega arith
weight-le w (High ∷ c) = let r = weight-le (w / 2) c in omega arith

pub turned-fit : (v : List ℕ) → Each1 (λ x. x < 2 ^ 8) (map turned_octet v)
turned-fit [] = tt
turned-fit (x ∷ v) = (omega (arith, weight-le 128 (low_cells 8 x)), turned-fit v)

-- the same, by the copy b of the tables
abbrev by_tables : ℕ → ℕ → ℕ
by_tables b x = bit_or (get_or FROM_LOW (16 * b + bit_and x 15) 0) (get_or FROM_HIGH (16 * b + x / 16) 0)

abbrev is_turned : ℕ → ℕ → Bool
is_turned b x = eqb (by_tables b x) (turned_octet x)

tables-turn : (b x : ℕ) → b < 4 → x < 256 → by_tables b x ≡ turned_octet x
tables-turn b x hb hx =
    eqb-true (by_tables b x) (turned_octet x) (agree_below_at (is_turned b) (λ _. true) 256 x
    (agree_below_at (λ c. agree_below (is_turned c) (λ _. true) 256) (λ _. true) 4 b refl hb) hx)

abbrev pub by_lanes : List ℕ → List ℕ
by_lanes v = zip2 bit_or (swz_l w8 16 FROM_LOW 0 (low_four v)) (swz_l w8 16 FROM_HIGH 0 (high_four v))

-- a table read at j
read : (t js : List ℕ) (i j : ℕ) → i < length js → get_or js i 0 ≡ j → j < 16
    → get_or (swz_l w8 16 t 0 js) i 0 ≡ get_or t (16 * ((0 + i) / 16) + j) 0
read t js i j h e l = get_or-swz_l_below w8 16 t 0 js i h (omega arith)
    ∙ ap (λ k. get_or t (16 * ((0 + i) / 16) + k) 0) e

pub turned-lanes : (v : List ℕ) → length v ≡ 64 → Each1 (Fits w8) v → by_lanes v ≡ map turned_octet v
turned-lanes v l f =
    ext_get_or 0 (by_lanes v) (map turned_octet v) (whole ∙ sym (length-map v turned_octet ∙ l))
    (λ i h. let n = whole in lane i (omega (arith, n, h)))
  where
    low-length : length (low_four v) ≡ 64
    low-length = length-zip2 bit_and v (replicate 64 15) l ∙ l

    high-length : length (high_four v) ≡ 64
    high-length = length-zip2 (λ a b. a / 2 ^ b) v (replicate 64 4) l ∙ l

    from-low : length (swz_l w8 16 FROM_LOW 0 (low_four v)) ≡ 64
    from-low = length-swz_l w8 16 FROM_LOW 0 (low_four v) ∙ low-length

    from-high : length (swz_l w8 16 FROM_HIGH 0 (high_four v)) ≡ 64
    from-high = length-swz_l w8 16 FROM_HIGH 0 (high_four v) ∙ high-length

    whole : length (by_lanes v) ≡ 64
    whole = length-zip2 bit_or (swz_l w8 16 FROM_LOW 0 (low_four v)) (swz_l w8 16 FROM_HIGH 0 (high_four v))
        (from-low ∙ sym from-high) ∙ from-low

    lane : (i : ℕ) → i < 64 → get_or (by_lanes v) i 0 ≡ get_or (map turned_octet v) i 0
    lane i h =
        let x = get_or v i 0 in
        let small : x < 256 = Each1-get_or (λ a. a < 256) v i 0 (omega (arith, l)) (below_from_Fits w8 v f) in
        let a = read FROM_LOW (low_four v) i (bit_and x 15) (omega (arith, low-length))
        (get_or-zip2 bit_and v (replicate 64 15) i 0 0 0 (omega (arith, l)) h
        ∙ ap (bit_and x) (get_or-replicate 64 i 15 0 h)) (omega (arith, and_le_r x 15)) in
        let b = read FROM_HIGH (high_four v) i (x / 16) (omega (arith, high-length))
        (get_or-zip2 (λ a b. a / 2 ^ b) v (replicate 64 4) i 0 0 0 (omega (arith, l)) h
        ∙ ap (λ k. x / 2 ^ k) (get_or-replicate 64 i 4 0 h)) (omega arith) in
        get_or-zip2 bit_or (swz_l w8 16 FROM_LOW 0 (low_four v)) (swz_l w8 16 FROM_HIGH 0 (high_four v)) i 0 0 0
        (omega (arith, from-low)) (omega (arith, from-high))
        ∙ ap₂ bit_or a b ∙ tables-turn ((0 + i) / 16) x (omega arith) small
        ∙ sym (get_or-map turned_octet v i 0 0 (omega (arith, l)))
