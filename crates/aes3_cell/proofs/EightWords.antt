-- Eight words of cells in octets.
use Rattle.std.proofs.Common.{◌≡◌, ℕ, zero, suc, ◌+◌, ◌*◌, ◌/◌, ◌%◌, ◌^◌, ◌<◌, ◌≤◌, List, [], ◌∷◌, ◌++◌, length, map}
use Rattle.std.proofs.Common.{take, drop, get_or, refl, sym, ap, ap₂, ◌∙◌, arith, take-append-drop, w64, Fits}
use Rattle.std.specs.List.{flat_map}
use Rattle.std.specs.Int.{bit_at}
use Rattle.std.specs.Simd.Lanes.{Each1, number_l, digits_l, chunk, put_chunk}
use Rattle.std.proofs.lemmas.Grind.{flat_map-append}
use Rattle.std.proofs.lemmas.List.{length-map, length-drop, length-take-le, take_at, take_all}
use Rattle.std.proofs.lemmas.Nat.{div-mul-add, div-add-mod'}
use Rattle.std.proofs.lemmas.Nat.Bits.{bit_at_cat_low}
use Rattle.std.proofs.lemmas.Simd.{Each1-get_or, below_from_Fits, length-put_chunk, put_chunk_whole}
use Rattle.std.proofs.lemmas.Simd.{take_more_put_chunk}
use Rattle.std.proofs.lemmas.Slice.{take-put_mid}
use Rattle.std.proofs.Math.Seq.{take-add}
use borrow.Rule.Slice.PartMut.{put_mid, same_len_mid}
use Rattle.aes3_cell.specs.declared.form.Form.TheVariants.{Packed}
use Rattle.aes3_level.specs.Words.{low_cells, word_len, word_cells}
use Rattle.aes3_cell.specs.Packed.{cells_of_octets, first_octets, octets_needed, octets_of}
use Rattle.aes3_level.proofs.WordCells.{word_len_64}
use Rattle.aes3_cell.proofs.ManyWords.{length-words, length-octets, bytes-split}
use Rattle.aes3_cell.proofs.PackedCells.{cells_of_octets-append, length-cells_of_octets, first_octets-cells_of_octets}
use Rattle.aes3_cell.proofs.TurnedOctets.{turned_octet, turned-fit, octet_cells-turned, low_cells-turned}
use Rattle.aes3_level.proofs.WordCells.{low_cells-add, low_cells-same, length-word_cells}
use Rattle.aes3_cell.proofs.WrittenForms.{bytes-append}

-- numbers of k bits as one number, and a number cut into numbers of k bits
number-cells : (k : ℕ) (xs : List ℕ) → Each1 (λ x. x < 2 ^ k) xs
    → flat_map (low_cells k) xs ≡ low_cells (k * length xs) (number_l (2 ^ k) xs)
number-cells k [] f = ap (λ m. low_cells m 0) (let e : 0 ≡ k * 0 = omega arith in e)
number-cells k (x ∷ xs) f =
    let n = number_l (2 ^ k) xs in
    let e : n * 2 ^ k + x ≡ x + 2 ^ k * n = omega arith in
    let m : k + k * length xs ≡ k * suc (length xs) = omega arith in
    ap₂ ◌++◌ (sym (low_cells-same k (n * 2 ^ k + x) x (λ i h. bit_at_cat_low n k x i h)))
    (number-cells k xs f.1 ∙ ap (low_cells (k * length xs)) (sym (div-mul-add n (2 ^ k) x f.0)))
    ∙ sym (low_cells-add k (k * length xs) (n * 2 ^ k + x))
    ∙ ap₂ low_cells m e

digits-cells : (k n x : ℕ) → flat_map (low_cells k) (digits_l (2 ^ k) n x) ≡ low_cells (k * n) x
digits-cells k zero x = ap (λ m. low_cells m x) (let e : 0 ≡ k * 0 = omega arith in e)
digits-cells k (suc n) x =
    let m : k + k * n ≡ k * suc n = omega arith in
    ap₂ ◌++◌ (low_cells-same k (x % 2 ^ k) x low) (digits-cells k n (x / 2 ^ k)) ∙ sym (low_cells-add k (k * n) x)
    ∙ ap (λ j. low_cells j x) m
  where
    low : (i : ℕ) → i < k → bit_at (x % 2 ^ k) i ≡ bit_at x i
    low i h = sym (bit_at_cat_low (x / 2 ^ k) k (x % 2 ^ k) i h) ∙ ap (λ v. bit_at v i) (div-add-mod' x (2 ^ k))

-- the cells of turned octets
low-turned : (v : List ℕ) → flat_map (low_cells 8) (map turned_octet v) ≡ cells_of_octets v
low-turned [] = refl
low-turned (x ∷ v) = ap₂ ◌++◌ (low_cells-turned x) (low-turned v)

octets-turned : (v : List ℕ) → cells_of_octets (map turned_octet v) ≡ flat_map (low_cells 8) v
octets-turned [] = refl
octets-turned (x ∷ v) = ap₂ ◌++◌ (octet_cells-turned x) (octets-turned v)

-- the words of octets, which are turned
pub words-turned : (v t : List ℕ) → length v ≡ 64 → t ≡ map turned_octet v
    → flat_map word_cells (digits_l (2 ^ 64) 8 (number_l (2 ^ 8) t)) ≡ cells_of_octets v
unfolding word_cells word_len
words-turned v t l e =
    let n : length t ≡ 64 = ap length e ∙ length-map v turned_octet ∙ l in
    let f : Each1 (λ x. x < 2 ^ 8) t = rw e (turned-fit v) in
    digits-cells 64 8 (number_l (2 ^ 8) t) ∙ ap (λ m. low_cells (8 * m) (number_l (2 ^ 8) t)) (sym n)
    ∙ sym (number-cells 8 t f)
    ∙ ap (flat_map (low_cells 8)) e ∙ low-turned v

-- octets of these cells are their octets
octets-are : (t words : List ℕ) → Each1 (λ x. x < 2 ^ 8) t → length t ≡ 8 * length words
    → cells_of_octets t ≡ flat_map word_cells words → t ≡ octets_of (flat_map word_cells words)
unfolding octets_of
octets-are t words f l e =
    let n = length-words words ∙ ap (λ k. length words * k) word_len_64 in
    let needed : octets_needed (length (flat_map word_cells words)) ≡ length t = omega arith in
    sym (first_octets-cells_of_octets (length t) t refl (λ i h. Each1-get_or (λ a. a < 256) t i 0 h f))
    ∙ ap₂ first_octets (sym needed) e

-- the octets of words, which are turned
pub turned-words : (words t : List ℕ) → Each1 (Fits w64) words → length words ≡ 8
    → t ≡ map turned_octet (digits_l (2 ^ 8) 64 (number_l (2 ^ 64) words)) → t ≡ octets_of (flat_map word_cells words)
unfolding word_cells word_len
turned-words words t g m e =
    let v = digits_l (2 ^ 8) 64 (number_l (2 ^ 64) words) in
    let n : length t ≡ 64 = ap length e ∙ length-map v turned_octet in
    let f : Each1 (λ x. x < 2 ^ 8) t = rw e (turned-fit v) in
    octets-are t words f (omega (arith, n, m))
    (ap cells_of_octets e ∙ octets-turned v ∙ digits-cells 8 64 (number_l (2 ^ 64) words)
    ∙ ap (λ k. low_cells (64 * k) (number_l (2 ^ 64) words)) (sym m)
    ∙ sym (number-cells 64 words (below_from_Fits w64 words g)))

-- the first of these words, and the first octets of a word said again
pub first-word : (words v octets : List ℕ) → flat_map word_cells words ≡ cells_of_octets v → take 8 v ≡ octets
    → length octets ≡ 8 → 0 < length words
    → word_cells (get_or words 0 0) ≡ cells_of_octets octets
first-word [] v octets e t l s = absurd (omega arith)
first-word (w ∷ words) v octets e t l s =
    let n = length-word_cells w in
    let k = word_len_64 in
    let m = length-cells_of_octets octets in
    sym (take_at (word_cells w) (flat_map word_cells words) 64 (omega (arith, n, k)))
    ∙ ap (take 64) (e ∙ ap cells_of_octets (sym (take-append-drop 8 v) ∙ ap (λ o. o ++ drop 8 v) t)
    ∙ cells_of_octets-append octets (drop 8 v))
    ∙ take_at (cells_of_octets octets) (cells_of_octets (drop 8 v)) 64 (omega (arith, m, l))

pub first-octets : (w : ℕ) (words : List ℕ)
    → take 8 (octets_of (flat_map word_cells (w ∷ words))) ≡ octets_of (word_cells w)
first-octets w words =
    let n = length-word_cells w in
    ap (take 8) (bytes-append Packed 1 (word_cells w) (flat_map word_cells words) (omega (arith, n)))
    ∙ take_at (octets_of (word_cells w)) (octets_of (flat_map word_cells words)) 8 (length-octets w)

-- eight more words put behind those before
pub words-put : (words ys octets : List ℕ) (i : ℕ) → length ys ≡ 8 → 8 * (i + 1) ≤ length words
    → flat_map word_cells (take (8 * i) words) ≡ cells_of_octets (take (64 * i) octets)
    → flat_map word_cells ys ≡ cells_of_octets (chunk (64 * i) 64 octets)
    → flat_map word_cells (take (8 * (i + 1)) (put_chunk (8 * i) words ys))
    ≡ cells_of_octets (take (64 * (i + 1)) octets)
words-put words ys octets i e l f g =
    ap (flat_map word_cells) (take_more_put_chunk (8 * i) words ys (8 * (i + 1)) (omega (arith, e)) l)
    ∙ flat_map-append word_cells (take (8 * i) words) ys ∙ ap₂ ◌++◌ f g
    ∙ sym (cells_of_octets-append (take (64 * i) octets) (chunk (64 * i) 64 octets))
    ∙ ap cells_of_octets (sym (take-add (64 * i) 64 octets)
    ∙ ap (λ j. take j octets) (let j : 64 * i + 64 ≡ 64 * (i + 1) = omega arith in j))

-- two halves of a buffer filled, and the octets of 16 words in them
halves-put : (zs front back : List ℕ) → length zs ≡ 128 → length front ≡ 64 → length back ≡ 64
    → put_mid 64 64 (put_chunk 0 zs front) (put_chunk 0 (take 64 (drop 64 (put_chunk 0 zs front))) back) ≡ front ++ back
halves-put zs front back l f b =
    let xs = put_chunk 0 zs front in
    let n = length-put_chunk 0 zs front ∙ l in
    let m = length-drop 64 xs in
    let h = length-take-le 64 (drop 64 xs) (omega (arith, n, m)) in
    let size = same_len_mid 64 64 xs back (b ∙ sym h) in
    ap (put_mid 64 64 xs) (put_chunk_whole (take 64 (drop 64 xs)) back (h ∙ sym b))
    ∙ sym (take_all 128 (put_mid 64 64 xs back) (omega (arith, size, n)))
    ∙ take-put_mid 64 64 xs back 128 (omega (arith, b)) (omega (arith, n))
    ∙ ap (λ c. c ++ back) (take_more_put_chunk 0 zs front 64 (omega (arith, f)) (omega (arith, l)))

pub sixteen-put : (words zs front back : List ℕ) → length words ≡ 16 → length zs ≡ 128 → length front ≡ 64
    → length back ≡ 64
    → front ≡ octets_of (flat_map word_cells (take 8 words))
    → back ≡ octets_of (flat_map word_cells (take 8 (take 8 (drop 8 words))))
    → put_mid 64 64 (put_chunk 0 zs front) (put_chunk 0 (take 64 (drop 64 (put_chunk 0 zs front))) back)
    ≡ octets_of (flat_map word_cells words)
sixteen-put words zs front back n l f b e g =
    let m = length-drop 8 words in
    let rest = take_all 8 (drop 8 words) (omega (arith, m, n)) in
    halves-put zs front back l f b
    ∙ ap₂ ◌++◌ e (g ∙ ap (λ w. octets_of (flat_map word_cells w)) (ap (take 8) rest ∙ rest))
    ∙ bytes-split Packed words 8 (omega (arith, n))
