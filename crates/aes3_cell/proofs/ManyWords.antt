-- Words of cells, one more.
use Rattle.std.proofs.Common.{◌≡◌, ℕ, ◌+◌, ◌*◌, ◌<◌, ◌≤◌, List, [], ◌∷◌, ◌++◌, length, map, take, drop, get_or, set}
use Rattle.std.proofs.Common.{refl, sym, ap, ap₂, ◌∙◌, arith, append-nil, length-append, take-append-drop}
use Rattle.std.specs.List.{flat_map}
use Rattle.std.specs.Simd.Lanes.{chunk, put_chunk}
use Rattle.std.proofs.lemmas.Grind.{flat_map-append}
use Rattle.std.proofs.lemmas.List.{take_more, length-map, length-take-le}
use Rattle.std.proofs.Math.Seq.{take-add}
use borrow.Rule.Slice.PartMut.{put_mid}
use Rattle.std.proofs.lemmas.Slice.{take-put_mid}
use Rattle.aes3_cell.specs.declared.form.Form.{Form}
use Rattle.aes3_cell.specs.declared.form.Form.TheVariants.{Text}
use Rattle.aes3_level.specs.Words.{word_cells, word_len}
use Rattle.aes3_cell.specs.Packed.{cells_of_octets, octets_needed, octets_of}
use Rattle.aes3_cell.specs.Text.{byte_of, line_text, text_of}
use Rattle.aes3_cell.specs.Written.{bytes_of}
use Rattle.aes3_cell.proofs.Lines.{text_of-append, text_of-line}
use Rattle.aes3_level.proofs.WordCells.{word_len_64, length-word_cells}
use Rattle.aes3_level.proofs.WordLists.{words-more}
use Rattle.aes3_cell.proofs.WrittenForms.{bytes-append}
use Rattle.aes3_cell.proofs.PackedCells.{cells_of_octets-append, length-first_octets}

-- the word of the next eight octets
pub octets-more : (words octets : List ℕ) (i w : ℕ) → i < length words
    → flat_map word_cells (take i words) ≡ cells_of_octets (take (8 * i) octets)
    → word_cells w ≡ cells_of_octets (chunk (8 * i) 8 octets)
    → flat_map word_cells (take (i + 1) (set words i w)) ≡ cells_of_octets (take (8 * (i + 1)) octets)
octets-more words octets i w h e d =
    words-more words i w h ∙ ap₂ ◌++◌ e d ∙ sym (cells_of_octets-append (take (8 * i) octets) (chunk (8 * i) 8 octets))
    ∙ ap cells_of_octets (sym (take-add (8 * i) 8 octets)
    ∙ ap (λ n. take n octets) (let n : 8 * i + 8 ≡ 8 * (i + 1) = omega arith in n))

-- how many cells
pub length-words : (words : List ℕ) → length (flat_map word_cells words) ≡ length words * word_len
length-words [] = omega arith
length-words (w ∷ words) =
    let k = word_len_64 in
    let l = length-append (word_cells w) (flat_map word_cells words) in
    let m = length-word_cells w in
    let n = length-words words in
    omega (arith, l, m, n)

front-length : (words : List ℕ) (i : ℕ) → i ≤ length words → length (flat_map word_cells (take i words)) ≡ i * word_len
front-length words i h = length-words (take i words) ∙ ap (λ n. n * word_len) (length-take-le i words h)

-- the word of the next line
pub lines-more : (words text : List ℕ) (i w : ℕ) → i < length words
    → take (65 * i) text ≡ text_of (flat_map word_cells (take i words))
    → take 65 (drop (65 * i) text) ≡ line_text (word_cells w)
    → take (65 * (i + 1)) text ≡ text_of (flat_map word_cells (take (i + 1) (set words i w)))
lines-more words text i w h e d =
    ap (λ n. take n text) (let n : 65 * (i + 1) ≡ 65 * i + 65 = omega arith in n) ∙ take-add (65 * i) 65 text
    ∙ ap₂ ◌++◌ e (d ∙ sym (text_of-line (word_cells w) (length-word_cells w)))
    ∙ sym (text_of-append i (flat_map word_cells (take i words)) (word_cells w)
    (front-length words i (omega (arith, h))))
    ∙ ap text_of (sym (words-more words i w h))

-- the bytes of words, one more, and those of all begin with them
pub bytes-words : (form : Form) (words : List ℕ) (i : ℕ) → i < length words
    → bytes_of form (flat_map word_cells (take i words)) ++ bytes_of form (word_cells (get_or words i 0))
    ≡ bytes_of form (flat_map word_cells (take (i + 1) words))
bytes-words form words i h =
    sym (bytes-append form i (flat_map word_cells (take i words)) (word_cells (get_or words i 0))
    (front-length words i (omega (arith, h))))
    ∙ ap (bytes_of form) (ap (λ c. flat_map word_cells (take i words) ++ c)
    (sym (append-nil (word_cells (get_or words i 0))))
    ∙ sym (flat_map-append word_cells (take i words) (get_or words i 0 ∷ []))
    ∙ ap (flat_map word_cells) (sym (take_more words i 0 h)))

pub bytes-split : (form : Form) (words : List ℕ) (i : ℕ) → i ≤ length words
    → bytes_of form (flat_map word_cells (take i words)) ++ bytes_of form (flat_map word_cells (drop i words))
    ≡ bytes_of form (flat_map word_cells words)
bytes-split form words i h =
    sym (bytes-append form i (flat_map word_cells (take i words)) (flat_map word_cells (drop i words))
    (front-length words i h))
    ∙ ap (bytes_of form) (sym (flat_map-append word_cells (take i words) (drop i words))
    ∙ ap (flat_map word_cells) (take-append-drop i words))

-- the bytes of some words put behind those of the words before
pub put-more : (form : Form) (words bytes ys : List ℕ) (i a b n : ℕ) → i < length words → b ≡ a + length ys
    → a ≤ length bytes → take a bytes ≡ bytes_of form (flat_map word_cells (take i words))
    → ys ≡ bytes_of form (word_cells (get_or words i 0))
    → take b (put_mid a n bytes ys) ≡ bytes_of form (flat_map word_cells (take (i + 1) words))
put-more form words bytes ys i a b n h e l front q
    = take-put_mid a n bytes ys b e l ∙ ap₂ ◌++◌ front q ∙ bytes-words form words i h

pub line-bytes : (w : ℕ) → line_text (word_cells w) ≡ bytes_of Text (word_cells w)
line-bytes w = sym (text_of-line (word_cells w) (length-word_cells w))

pub length-line : (w : ℕ) → length (line_text (word_cells w)) ≡ 65
length-line w =
    let m = length-map (word_cells w) byte_of in
    let n = length-word_cells w in
    let k = word_len_64 in
    let l = length-append (map byte_of (word_cells w)) (10 ∷ []) in
    omega (arith, m, n, k, l)

-- the words from one on, and more of them
pub bytes-block : (form : Form) (words : List ℕ) (at n : ℕ) → at ≤ length words
    → bytes_of form (flat_map word_cells (take at words))
    ++ bytes_of form (flat_map word_cells (take n (drop at words)))
    ≡ bytes_of form (flat_map word_cells (take (at + n) words))
bytes-block form words at n h =
    sym (bytes-append form at (flat_map word_cells (take at words)) (flat_map word_cells (take n (drop at words)))
    (front-length words at h))
    ∙ ap (bytes_of form) (sym (flat_map-append word_cells (take at words) (take n (drop at words)))
    ∙ ap (flat_map word_cells) (sym (take-add at n words)))

pub length-octets : (w : ℕ) → length (octets_of (word_cells w)) ≡ 8
unfolding octets_of
length-octets w =
    let n = length-word_cells w in
    let k = word_len_64 in
    length-first_octets (octets_needed (length (word_cells w))) (word_cells w)
    ∙ (let e : octets_needed (length (word_cells w)) ≡ 8 = omega (arith, n, k) in e)

-- one byte behind those that were put over the first of a list
pub put-behind : (xs ys : List ℕ) (y : ℕ) → length xs ≡ length ys + 1
    → set (put_chunk 0 xs ys) (length ys) y ≡ ys ++ y ∷ []
put-behind [] ys y h = absurd (omega arith)
put-behind (x ∷ []) [] y h = refl
put-behind (x ∷ z ∷ xs) [] y h = absurd (omega arith)
put-behind (x ∷ xs) (z ∷ ys) y h = ap (λ l. z ∷ l) (put-behind xs ys y (omega arith))
