-- Octets with their bits in the opposite order.
use Rattle.std.proofs.Common.{◌≡◌, ℕ, suc, ◌+◌, ◌-◌, ◌*◌, ◌/◌, ◌%◌, ◌<◌, ◌≤◌, List, [], ◌∷◌, ◌++◌, length, map, take}
use Rattle.std.proofs.Common.{drop, get_or, replicate, refl, sym, ap, ap₂, ◌∙◌, append_assoc, append-nil}
use Rattle.std.proofs.Common.{take-append-drop, arith, w64, Bool, true, false, nat_lt, if◌then◌else◌}
use Rattle.std.proofs.Common.{lt-ltb, ltb-true}
use Rattle.std.specs.List.{flat_map}
use Rattle.std.specs.Int.{from_le_bytes}
use Rattle.std.proofs.lemmas.List.{length-map, length-drop, length-take-le, get_or-map, map-append, take-map, take_at}
use Rattle.std.proofs.lemmas.List.{drop_at, drop_all, drop-drop}
use Rattle.std.proofs.Math.Seq.{take-add}
use Rattle.std.proofs.lemmas.Slice.{take-put_mid}
use borrow.Rule.Slice.PartMut.{put_mid}
use Rattle.aes3_level.specs.declared.level.Level.{Level}
use Rattle.aes3_level.specs.declared.level.Level.TheVariants.{Low, High}
use Rattle.aes3_level.specs.Words.{low_cells, word_len, word_cells}
use Rattle.aes3_cell.specs.Packed.{cells_of_octets, first_octets, octets_needed, octets_of, packed_of, octet_of, weight}
use Rattle.aes3_cell.proofs.Octets.{octet_of-octet_cells}
use Rattle.aes3_cell.proofs.PackedCells.{first_octets-cells_of_octets, length-cells_of_octets}
use Rattle.aes3_cell.proofs.PackedCells.{cells_of_octets-first_octets}
use Rattle.aes3_cell.proofs.TurnedOctets.{low_cells-turned, octet_cells-turned, weight-le}
use Rattle.aes3_level.proofs.WordCells.{low_cells-add, low_cells-mod}
use Rattle.aes3_cell_octets.specs.Octets.{PacksReversed, reversed, reversed_cells, reversed_octet}

-- the cells of reversed octets
pub octets-reversed : (v : List ℕ) → cells_of_octets (map reversed v) ≡ flat_map reversed_cells v
octets-reversed [] = refl
octets-reversed (x ∷ v) = ap₂ ◌++◌ (octet_cells-turned x) (octets-reversed v)

pub reversed-lt : (x : ℕ) → reversed x < 256
reversed-lt x = omega (arith, weight-le 128 (low_cells 8 x))

pub reversed-back : (x : ℕ) → x < 256 → reversed (reversed x) ≡ x
reversed-back x h = ap octet_of (low_cells-turned x) ∙ octet_of-octet_cells x h

is-octet : (x : ℕ) → x < 256 → reversed_octet x ≡ reversed x
is-octet x h = ap (λ b. if b then reversed x else x) (lt-ltb x 256 h)

reversed_octet-twice : (x : ℕ) → reversed_octet (reversed_octet x) ≡ x
reversed_octet-twice x = go (nat_lt x 256) refl
  where
    go : (b : Bool) → nat_lt x 256 ≡ b → reversed_octet (reversed_octet x) ≡ x
    go true e =
        let h : x < 256 = ltb-true x 256 e in
        ap reversed_octet (is-octet x h) ∙ is-octet (reversed x) (reversed-lt x) ∙ reversed-back x h
    go false e =
        let is : reversed_octet x ≡ x = ap (λ b. if b then reversed x else x) e in
        ap reversed_octet is ∙ is

pub octets-twice : (v : List ℕ) → map reversed_octet (map reversed_octet v) ≡ v
octets-twice [] = refl
octets-twice (x ∷ v) = ap₂ ◌∷◌ (reversed_octet-twice x) (octets-twice v)

pub are-octets : (v : List ℕ) → ((i : ℕ) → get_or v i 0 < 256) → map reversed_octet v ≡ map reversed v
are-octets [] h = refl
are-octets (x ∷ v) h = ap₂ ◌∷◌ (is-octet x (h 0)) (are-octets v (λ i. h (suc i)))

-- a reversed octet reversed back
pub octets-back : (v : List ℕ) → ((i : ℕ) → get_or v i 0 < 256) → map reversed_octet (map reversed v) ≡ v
octets-back v h = ap (map reversed_octet) (sym (are-octets v h)) ∙ octets-twice v

-- a number below n * 256 + x and its octet
low-cells-byte : (n k w x r : ℕ) → x < 256 → w ≡ r * 256 + x → k ≡ 8 + n
    → low_cells k w ≡ low_cells 8 x ++ low_cells n r
low-cells-byte n k w x r h e j =
    let low : w % 256 ≡ x = omega arith in
    let rest : w / 256 ≡ r = omega arith in
    ap (λ m. low_cells m w) j ∙ low_cells-add 8 n w
    ∙ ap₂ ◌++◌ (sym (low_cells-mod w) ∙ ap (low_cells 8) low) (ap (low_cells n) rest)

-- the word of eight octets has their cells, the first of each in the lowest bit
pub word-octets : (v : List ℕ) → length v ≡ 8 → ((i : ℕ) → get_or v i 0 < 256)
    → word_cells (from_le_bytes w64 v) ≡ flat_map reversed_cells v
unfolding word_cells word_len
word-octets (a ∷ b ∷ c ∷ d ∷ e ∷ f ∷ g ∷ i ∷ []) l h =
    let ha : a < 256 = h 0 in
    let hb : b < 256 = h 1 in
    let hc : c < 256 = h 2 in
    let hd : d < 256 = h 3 in
    let he : e < 256 = h 4 in
    let hf : f < 256 = h 5 in
    let hg : g < 256 = h 6 in
    let hi : i < 256 = h 7 in
    low-cells-byte 56 64 _ a (b + 256 * (c + 256 * (d + 256 * (e + 256 * (f + 256 * (g + 256 * i)))))) ha (omega arith)
    refl
    ∙ ap (λ t. low_cells 8 a ++ t)
    (low-cells-byte 48 56 _ b (c + 256 * (d + 256 * (e + 256 * (f + 256 * (g + 256 * i))))) hb (omega arith) refl
    ∙ ap (λ t. low_cells 8 b ++ t)
    (low-cells-byte 40 48 _ c (d + 256 * (e + 256 * (f + 256 * (g + 256 * i)))) hc (omega arith) refl
    ∙ ap (λ t. low_cells 8 c ++ t) (low-cells-byte 32 40 _ d (e + 256 * (f + 256 * (g + 256 * i))) hd (omega arith) refl
    ∙ ap (λ t. low_cells 8 d ++ t) (low-cells-byte 24 32 _ e (f + 256 * (g + 256 * i)) he (omega arith) refl
    ∙ ap (λ t. low_cells 8 e ++ t) (low-cells-byte 16 24 _ f (g + 256 * i) hf (omega arith) refl
    ∙ ap (λ t. low_cells 8 f ++ t) (low-cells-byte 8 16 _ g i hg (omega arith) refl
    ∙ ap (λ t. low_cells 8 g ++ t) (low-cells-byte 0 8 _ i 0 hi (omega arith) refl)))))))
word-octets _ l h = absurd (omega arith)

-- octets of these cells are the octets reversed
reversed-small : (v : List ℕ) (i : ℕ) → i < length (map reversed v) → get_or (map reversed v) i 0 < 256
reversed-small v i h =
    let e = get_or-map reversed v i 0 0 (omega (arith, length-map v reversed)) in
    let l = reversed-lt (get_or v i 0) in
    omega (arith, e, l)

pub octets-of-reversed : (v : List ℕ) → octets_of (flat_map reversed_cells v) ≡ map reversed v
unfolding octets_of
octets-of-reversed v =
    let l = ap length (octets-reversed v) in
    let n = length-cells_of_octets (map reversed v) in
    let needed : octets_needed (length (flat_map reversed_cells v)) ≡ length (map reversed v) = omega (arith, l, n) in
    ap₂ first_octets needed (sym (octets-reversed v))
    ∙ first_octets-cells_of_octets (length (map reversed v)) (map reversed v) refl (reversed-small v)

-- eight octets, reversed by way of their word
pub eight-reversed : (v octets : List ℕ) → length v ≡ 8 → ((i : ℕ) → get_or v i 0 < 256)
    → octets ≡ octets_of (word_cells (from_le_bytes w64 v)) → octets ≡ map reversed v
eight-reversed v octets l h e = e ∙ ap octets_of (word-octets v l h) ∙ octets-of-reversed v

-- the first of eight
pub few-reversed : (n : ℕ) (xs ys octets : List ℕ) → n ≡ length xs → n ≤ 8 → ys ≡ xs
    → octets ≡ map reversed (put_mid 0 n (replicate 8 0) ys) → take n octets ≡ map reversed xs
few-reversed n xs ys octets l h f e =
    let size = ap length f in
    ap (take n) e ∙ take-map reversed n (put_mid 0 n (replicate 8 0) ys)
    ∙ ap (map reversed) (take-put_mid 0 n (replicate 8 0) ys n (omega (arith, size)) (omega arith) ∙ f)

-- some octets more are reversed
front-reversed : (n : ℕ) (xs now : List ℕ) → now ≡ map reversed (take n xs) ++ drop n xs → n ≤ length xs
    → (take n now ≡ map reversed (take n xs)) × (drop n now ≡ drop n xs)
front-reversed n xs now e h =
    let l : length (map reversed (take n xs)) ≡ n = length-map (take n xs) reversed ∙ length-take-le n xs h in (
      ap (take n) e ∙ take_at (map reversed (take n xs)) (drop n xs) n l,
      ap (drop n) e ∙ drop_at (map reversed (take n xs)) (drop n xs) n l,
    )

pub more-reversed : (n m k : ℕ) (xs now ys : List ℕ) → now ≡ map reversed (take n xs) ++ drop n xs → n + m ≤ length xs
    → k ≡ m → ys ≡ map reversed (take m (drop n now))
    → put_mid n k now ys ≡ map reversed (take (n + m) xs) ++ drop (n + m) xs
more-reversed n m k xs now ys e h q f =
    let p = front-reversed n xs now e (omega arith) in
    ap₂ ◌++◌ p.0 (ap₂ ◌++◌ (f ∙ ap (λ r. map reversed (take m r)) p.1) (ap₂ drop q p.1 ∙ drop-drop m n xs))
    ∙ sym (append_assoc (map reversed (take n xs)) (map reversed (take m (drop n xs))) (drop (n + m) xs))
    ∙ ap (λ v. v ++ drop (n + m) xs)
    (sym (map-append reversed (take n xs) (take m (drop n xs))) ∙ ap (map reversed) (sym (take-add n m xs)))

-- all of them
pub rest-reversed : (n k : ℕ) (xs now ys : List ℕ) → now ≡ map reversed (take n xs) ++ drop n xs → n ≤ length xs
    → k ≡ length xs - n → ys ≡ map reversed (drop n now)
    → put_mid n k now ys ≡ map reversed xs
rest-reversed n k xs now ys e h q f =
    let p = front-reversed n xs now e h in
    let size = length-drop n xs in
    let none : drop k (drop n now) ≡ [] = ap (drop k) p.1 ∙ drop_all k (drop n xs) (omega (arith, size)) in
    ap₂ ◌++◌ p.0 (ap₂ ◌++◌ (f ∙ ap (map reversed) p.1) none ∙ append-nil (map reversed (drop n xs)))
    ∙ sym (map-append reversed (take n xs) (drop n xs)) ∙ ap (map reversed) (take-append-drop n xs)

-- the cells of octets reversed twice
low-reversed : (v : List ℕ) → flat_map reversed_cells (map reversed v) ≡ cells_of_octets v
low-reversed [] = refl
low-reversed (x ∷ v) = ap₂ ◌++◌ (low_cells-turned x) (low-reversed v)

-- whole octets packed, with all of them reversed
pub whole-reversed : (c : List Level) → length c % 8 ≡ 0 → PacksReversed (map reversed (packed_of c)) c
unfolding packed_of octets_of
whole-reversed c h =
    let n = octets_needed (length c) in
    let none : 8 * n - length c ≡ 0 = omega arith in
    record {
      front = map reversed (octets_of c);
      unused = 0;
      last = ap (λ k. map reversed (octets_of c ++ k ∷ [])) none ∙ map-append reversed (octets_of c) (0 ∷ []);
      few = omega arith;
      filled = low-reversed (octets_of c) ∙ cells_of_octets-first_octets n c (omega arith)
          ∙ ap (λ k. c ++ replicate k Low) none;
    }
