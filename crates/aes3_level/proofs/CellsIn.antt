-- Cells of words, from any of them on.
use Rattle.std.proofs.Common.{◌≡◌, ℕ, ◌+◌, ◌-◌, ◌*◌, ◌<◌, ◌≤◌, List, [], ◌∷◌, ◌++◌, length, take, drop, get_or}
use Rattle.std.proofs.Common.{ap, ◌∙◌, sym, arith, length-append}
use Rattle.std.specs.List.{flat_map}
use Rattle.std.proofs.lemmas.Grind.{flat_map-append}
use Rattle.std.proofs.lemmas.List.{drop-drop, drop_at, drop_more, length-drop, length-take-le}
use Rattle.std.proofs.lemmas.List.{take-append-drop, take-append-le, take_at}
use Rattle.std.proofs.Math.Seq.{take-add}
use Rattle.aes3_level.specs.declared.level.Level.{Level}
use Rattle.aes3_level.specs.Words.{low_cells, word_cells, word_len, cells_in}
use Rattle.aes3_level.proofs.WordCells.{word_len_64, length-word_cells, length-low_cells, take-low_cells}

pub length-words : (ws : List ℕ) → length (flat_map word_cells ws) ≡ 64 * length ws
length-words [] = omega arith
length-words (w ∷ ws) =
    let a = length-append (word_cells w) (flat_map word_cells ws) in
    let n = length-word_cells w in
    let k = word_len_64 in
    let r = length-words ws in
    omega arith

pub words-parted : (ws : List ℕ) (i : ℕ)
    → flat_map word_cells ws ≡ flat_map word_cells (take i ws) ++ flat_map word_cells (drop i ws)
words-parted ws i = ap (flat_map word_cells) (sym (take-append-drop i ws))
    ∙ flat_map-append word_cells (take i ws) (drop i ws)

pub length-front_words : (ws : List ℕ) (i : ℕ) → i ≤ length ws → length (flat_map word_cells (take i ws)) ≡ 64 * i
length-front_words ws i h = length-words (take i ws) ∙ ap (λ k. 64 * k) (length-take-le i ws h)

-- the first words and the others
pub cells-of-words : (ws : List ℕ) (i : ℕ) → i ≤ length ws
    → take (64 * i) (flat_map word_cells ws) ≡ flat_map word_cells (take i ws)
cells-of-words ws i h =
    ap (take (64 * i)) (words-parted ws i)
    ∙ take_at (flat_map word_cells (take i ws)) (flat_map word_cells (drop i ws)) (64 * i) (length-front_words ws i h)

pub drop-words : (ws : List ℕ) (i : ℕ) → i ≤ length ws
    → drop (64 * i) (flat_map word_cells ws) ≡ flat_map word_cells (drop i ws)
drop-words ws i h =
    ap (drop (64 * i)) (words-parted ws i)
    ∙ drop_at (flat_map word_cells (take i ws)) (flat_map word_cells (drop i ws)) (64 * i) (length-front_words ws i h)

-- those from one on are those of the words from its own on
pub words-behind : (ws : List ℕ) (k s n : ℕ) → k ≤ length ws → cells_in (drop k ws) s n ≡ cells_in ws (64 * k + s) n
words-behind ws k s n h =
    ap (λ c. take n (drop s c)) (sym (drop-words ws k h))
    ∙ ap (take n) (drop-drop s (64 * k) (flat_map word_cells ws))

-- the first of a word
front-of-word : (w n : ℕ) (more : List Level) → n ≤ 64 → take n (word_cells w ++ more) ≡ low_cells n w
unfolding word_cells word_len
front-of-word w n more h =
    let l = length-low_cells 64 w in
    take-append-le n (low_cells 64 w) more (omega (arith, l))
    ∙ ap (λ i. take n (low_cells i w)) (let e : 64 ≡ n + (64 - n) = omega arith in e)
    ∙ take-low_cells n (64 - n) w

pub front-from : (ws : List ℕ) (i n : ℕ) → i < length ws → n ≤ 64
    → take n (flat_map word_cells (drop i ws)) ≡ low_cells n (get_or ws i 0)
front-from ws i n h few =
    ap (λ d. take n (flat_map word_cells d)) (drop_more ws i 0 h)
    ∙ front-of-word (get_or ws i 0) n (flat_map word_cells (drop (i + 1) ws)) few

-- some and some more
pub more-cells : (ws : List ℕ) (first a b : ℕ)
    → cells_in ws first (a + b) ≡ cells_in ws first a ++ cells_in ws (first + a) b
more-cells ws first a b =
    let cells = flat_map word_cells ws in
    take-add a b (drop first cells) ∙ ap (λ c. take a (drop first cells) ++ take b c) (drop-drop a first cells)

pub length-cells_in : (ws : List ℕ) (first n : ℕ) → first + n ≤ 64 * length ws → length (cells_in ws first n) ≡ n
length-cells_in ws first n h =
    let l = length-words ws in
    let d = length-drop first (flat_map word_cells ws) in
    length-take-le n (drop first (flat_map word_cells ws)) (omega (arith, l, d))
