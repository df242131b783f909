-- Octets of packed cells fed to a reader.
use Rattle.std.proofs.Common.{◌≡◌, ℕ, suc, ◌+◌, ◌-◌, ◌*◌, ◌<◌, ◌≤◌, List, [], ◌∷◌, ◌++◌, false, cond, Option, Some}
use Rattle.std.proofs.Common.{None, length, take, drop, get_or, set, refl, sym, ap, ap₂, ◌∙◌, arith, append_assoc}
use Rattle.std.proofs.Common.{append-nil, length-append, le-ltb}
use borrow.Rule.Slice.PartMut.{put_mid}
use Rattle.std.specs.Prelude.{nat_lt}
use Rattle.std.specs.List.{flat_map}
use Rattle.std.proofs.lemmas.List.{take_all, drop_all}
use Rattle.std.proofs.Math.Seq.{take-add, take-suc}
use Rattle.aes3_level.specs.Words.{word_cells}
use Rattle.aes3_cell.specs.Packed.{cells_of_octets, whole_cells}
use Rattle.aes3_cell.specs.PackedReading.{PackedReader, packed_reader_of, packed_answer, packed_next, answer_cells}
use Rattle.aes3_cell.specs.PackedFeeding.{octets_fed, cells_fed}
use Rattle.aes3_cell.proofs.OctetWords.{first-six}
use Rattle.aes3_cell.proofs.PackedCells.{cells_of_octets-append}
use Rattle.aes3_cell.proofs.PackedReads.{packed_reader-more, whole_cells-more, reader-is}

-- behind octets, more of them
pub octets_fed-append : (r : PackedReader) (a b : List ℕ) → octets_fed r (a ++ b) ≡ octets_fed (octets_fed r a) b
octets_fed-append r [] b = refl
octets_fed-append r (x ∷ a) b = octets_fed-append (packed_next r x) a b

octets_fed-seen : (r : PackedReader) (a : List ℕ) → (octets_fed r a).seen ≡ r.seen + length a
octets_fed-seen r [] = omega arith
octets_fed-seen r (x ∷ a) = let e = octets_fed-seen (packed_next r x) a in omega arith

-- a reader holds the last two
pub octets_fed-two : (r : PackedReader) (a : List ℕ) (x y : ℕ)
    → octets_fed r (a ++ x ∷ y ∷ []) ≡ record { seen = r.seen + length (a ++ x ∷ y ∷ []); before_last = x; last = y }
octets_fed-two r a x y =
    let s = octets_fed-seen r a in
    let l = length-append a (x ∷ y ∷ []) in
    octets_fed-append r a (x ∷ y ∷ [])
    ∙ reader-is (let n : (octets_fed r a).seen + 1 + 1 ≡ r.seen + length (a ++ x ∷ y ∷ []) = omega arith in n)
    refl refl

-- where two came before, each octet makes the one two before it whole
pub cells_fed-behind : (r : PackedReader) (a : List ℕ) → 2 ≤ r.seen
    → cells_fed r a ≡ cells_of_octets (take (length a) (r.before_last ∷ r.last ∷ a))
cells_fed-behind r [] h = refl
cells_fed-behind r (x ∷ a) h =
    let t : nat_lt r.seen 2 ≡ false = le-ltb r.seen 2 h in
    ap₂ ◌++◌ (ap (λ b. answer_cells (cond {A = Option ℕ} b None (Some r.before_last))) t)
    (cells_fed-behind (packed_next r x) a (omega arith))

-- the reader of octets, fed more, and the cells that are whole then
pub reader-fed : (b a : List ℕ) → octets_fed (packed_reader_of b) a ≡ packed_reader_of (b ++ a)
reader-fed b [] = ap packed_reader_of (sym (append-nil b))
reader-fed b (x ∷ a) =
    ap (λ r. octets_fed r a) (packed_reader-more b x) ∙ reader-fed (b ++ x ∷ []) a
    ∙ ap packed_reader_of (append_assoc b (x ∷ []) a)

pub whole-fed : (b a : List ℕ) → whole_cells (b ++ a) ≡ whole_cells b ++ cells_fed (packed_reader_of b) a
whole-fed b [] = ap whole_cells (append-nil b) ∙ sym (append-nil (whole_cells b))
whole-fed b (x ∷ a) =
    ap whole_cells (sym (append_assoc b (x ∷ []) a)) ∙ whole-fed (b ++ x ∷ []) a
    ∙ ap₂ ◌++◌ (whole_cells-more b x) (ap (λ r. cells_fed r a) (sym (packed_reader-more b x)))
    ∙ append_assoc (whole_cells b) (answer_cells (packed_answer (packed_reader_of b)))
    (cells_fed (packed_next (packed_reader_of b) x) a)

-- eight octets for each word: the first word begins with the two before
pub words-behind : (r : PackedReader) (words ys octets : List ℕ) (w : ℕ) → 2 ≤ r.seen → 0 < length words
    → length octets ≡ 8 * length words
    → word_cells w ≡ cells_of_octets
    (r.before_last ∷ r.last ∷ get_or octets 0 0 ∷ get_or octets 1 0 ∷ get_or octets 2 0 ∷ get_or octets 3 0
    ∷ get_or octets 4 0 ∷ get_or octets 5 0 ∷ [])
    → flat_map word_cells ys ≡ cells_of_octets (take (length octets - 2 - 6) (drop 6 octets))
    → flat_map word_cells (put_mid 1 (length (set words 0 w) - 1) (set words 0 w) ys) ≡ cells_fed r octets
words-behind r [] ys octets w s h n d e = absurd (omega (arith, h))
words-behind r (x ∷ ws) ys octets w s h n d e =
    let m = length octets - 2 - 6 in
    let some : 8 ≤ length octets = omega arith in
    let count : length octets ≡ suc (suc (6 + m)) = omega arith in
    let words : put_mid 1 (suc (length ws) - 1) (w ∷ ws) ys ≡ w ∷ ys =
    ap (λ t. w ∷ (ys ++ t)) (drop_all (suc (length ws) - 1) ws (omega arith)) ∙ ap (λ t. w ∷ t) (append-nil ys) in
    ap (flat_map word_cells) words
    ∙ ap₂ ◌++◌ (d ∙ ap (λ o. cells_of_octets (r.before_last ∷ r.last ∷ o)) (first-six octets (omega (arith, some)))) e
    ∙ sym (cells_of_octets-append (r.before_last ∷ r.last ∷ take 6 octets) (take m (drop 6 octets)))
    ∙ ap (λ o. cells_of_octets (r.before_last ∷ r.last ∷ o)) (sym (take-add 6 m octets))
    ∙ ap (λ k. cells_of_octets (take k (r.before_last ∷ r.last ∷ octets))) (sym count)
    ∙ sym (cells_fed-behind r octets s)

pub reader-behind_words : (r : PackedReader) (octets : List ℕ) → 2 ≤ length octets
    → ◌≡◌ {A = PackedReader} (record {
      seen = r.seen + length octets;
      before_last
          = get_or octets (length octets - 2) 0;
      last = get_or octets (length octets - 1) 0;
    }) (octets_fed r octets)
reader-behind_words r octets h =
    let n = length octets - 2 in
    let x = get_or octets n 0 in
    let y = get_or octets (suc n) 0 in
    let k : length octets ≡ suc (suc n) = omega arith in
    let is : octets ≡ take n octets ++ x ∷ y ∷ [] =
    sym (take_all (length octets) octets (omega arith)) ∙ ap (λ j. take j octets) k
    ∙ take-suc octets (suc n) 0 (omega (arith, k))
    ∙ ap (λ a. a ++ y ∷ []) (take-suc octets n 0 (omega (arith, k))) ∙ append_assoc (take n octets) (x ∷ []) (y ∷ []) in
    reader-is (ap (λ o. r.seen + length o) is) refl
    (ap (λ j. get_or octets j 0) (let j : length octets - 1 ≡ suc n = omega arith in j))
    ∙ sym (octets_fed-two r (take n octets) x y) ∙ ap (octets_fed r) (sym is)
