-- Cells of words that are still to be taken.
use Rattle.std.proofs.Common.{◌≡◌, ℕ, ◌+◌, ◌-◌, ◌*◌, ◌/◌, ◌%◌, ◌^◌, ◌<◌, ◌≤◌, List, ◌++◌, ◌⊎◌, inl, inr, length, take, drop, min}
use Rattle.std.proofs.Common.{get_or, refl, sym, ap, ap₂, ◌∙◌, arith, append_assoc, length-append}
use Rattle.std.specs.List.{flat_map}
use Rattle.std.proofs.lemmas.List.{drop-drop, drop-take, length-drop, length-take-le, take-append-drop, take-take, take_all}
use Rattle.std.proofs.lemmas.Bool.{cases_lt}
use Rattle.std.proofs.Math.Seq.{take-add}
use Rattle.aes3_level.specs.declared.level.Level.{Level}
use Rattle.aes3_level.specs.Words.{cells_in, low_cells, word_cells}
use Rattle.aes3_level.proofs.WordCells.{length-low_cells, drop-low_cells, take-low_cells}
use Rattle.aes3_level.proofs.CellsIn.{length-words, cells-of-words, drop-words, front-from, words-behind}

-- those of a word that was begun
pub here-length : (w at end : ℕ) → length (drop at (low_cells end w)) ≡ end - at
here-length w at end =
    let n = length-drop at (low_cells end w) in
    let l = length-low_cells end w in
    omega (arith, n, l)

pub here-word : (w at end : ℕ) → at ≤ end → low_cells (end - at) (w / 2 ^ at) ≡ drop at (low_cells end w)
here-word w at end h =
    sym (ap (λ k. drop at (low_cells k w)) (let e : end ≡ at + (end - at) = omega arith in e)
    ∙ drop-low_cells at (end - at) w)

pub here-value : (w at end found : ℕ) (here : List Level) → at ≤ end → length here ≡ end - at
    → drop at (low_cells end w) ≡ here → found ≡ w / 2 ^ at → low_cells (length here) found ≡ here
here-value w at end found here h n v e =
    ap (λ m. low_cells m found) n ∙ ap (low_cells (end - at)) e ∙ here-word w at end h ∙ v

-- those of the words after it
pub next-length : (ws : List ℕ) (rest : ℕ) → rest ≤ 64 * length ws → length (take rest (flat_map word_cells ws)) ≡ rest
next-length ws rest h =
    let l = length-words ws in
    length-take-le rest (flat_map word_cells ws) (omega (arith, h, l))

pub all-length : (w at end : ℕ) (ws : List ℕ) (rest : ℕ) → rest ≤ 64 * length ws
    → length (drop at (low_cells end w) ++ take rest (flat_map word_cells ws)) ≡ end - at + rest
all-length w at end ws rest h =
    length-append (drop at (low_cells end w)) (take rest (flat_map word_cells ws))
    ∙ ap₂ ◌+◌ (here-length w at end) (next-length ws rest h)

pub whole-length : (ws : List ℕ) (rest : ℕ) → rest ≤ 64 * length ws → length (take (rest / 64) ws) ≡ rest / 64
whole-length ws rest h = length-take-le (rest / 64) ws (omega (arith, h))

pub whole-cells : (ws : List ℕ) (rest : ℕ) → rest ≤ 64 * length ws
    → flat_map word_cells (take (rest / 64) ws)
    ≡ take (64 * length (take (rest / 64) ws)) (take rest (flat_map word_cells ws))
whole-cells ws rest h =
    sym (ap (λ n. take (64 * n) (take rest (flat_map word_cells ws))) (whole-length ws rest h)
    ∙ take-take (64 * (rest / 64)) rest (flat_map word_cells ws) (omega arith)
    ∙ cells-of-words ws (rest / 64) (omega (arith, h)))

-- without the first words
pub words-dropped : (ws : List ℕ) (n : ℕ) → take (length ws - n) (drop n ws) ≡ drop n ws
words-dropped ws n = take_all (length ws - n) (drop n ws) (let d = length-drop n ws in omega (arith, d))

pub skipped : (ws : List ℕ) (n rest : ℕ) (left : List ℕ) → left ≡ take (length ws - n) (drop n ws) → 64 * n ≤ rest
    → rest ≤ 64 * length ws
    → take (rest - 64 * n) (flat_map word_cells left) ≡ drop (64 * n) (take rest (flat_map word_cells ws))
skipped ws n rest left e h l =
    ap (λ v. take (rest - 64 * n) (flat_map word_cells v)) (e ∙ words-dropped ws n)
    ∙ ap (take (rest - 64 * n)) (sym (drop-words ws n (omega (arith, h, l))))
    ∙ sym (ap (λ k. drop (64 * n) (take k (flat_map word_cells ws))) (let e : rest ≡ 64 * n + (rest - 64 * n)
    = omega (arith, h) in e)
    ∙ drop-take (64 * n) (rest - 64 * n) (flat_map word_cells ws))

-- the first word is begun
begun-more : (a more : List Level) (n m : ℕ) → m ≡ min n 64 → drop 64 a ≡ more
    → (n < 64) ⊎ (64 ≤ n) → take (n - m) (drop m a) ≡ take (n - m) more
begun-more a more n m e d (inl h) =
    let z : n - m ≡ 0 = omega (arith, e, h) in
    rw z refl
begun-more a more n m e d (inr h) =
    let z : m ≡ 64 = omega (arith, e, h) in
    ap (λ k. take (n - m) (drop k a)) z ∙ ap (take (n - m)) d

pub begun : (ws : List ℕ) (n m : ℕ) → 0 < length ws → m ≡ min n 64
    → take n (flat_map word_cells ws)
    ≡ low_cells m (get_or ws 0 0) ++ take (n - m) (flat_map word_cells (take (length ws - 1) (drop 1 ws)))
begun ws n m h e =
    let all = flat_map word_cells ws in
    ap (λ k. take k all) (let s : n ≡ m + (n - m) = omega (arith, e) in s)
    ∙ take-add m (n - m) all
    ∙ ap₂ ◌++◌ (front-from ws 0 m h (omega (arith, e)))
    (begun-more all (flat_map word_cells (take (length ws - 1) (drop 1 ws))) n m e
    (drop-words ws 1 (omega (arith, h)) ∙ ap (flat_map word_cells) (sym (words-dropped ws 1))) (cases_lt n 64))

-- some of the cells from one of the first word on
at-more : (ws : List ℕ) (at n m : ℕ) → 0 < length ws → m ≡ min n (64 - at) → at < 64
    → (n < 64 - at) ⊎ (64 - at ≤ n)
    → take (n - m) (drop m (drop at (flat_map word_cells ws)))
    ≡ take (n - m) (flat_map word_cells (take (length ws - 1) (drop 1 ws)))
at-more ws at n m h e l (inl q) = let z : n - m ≡ 0 = omega (arith, e, q) in rw z refl
at-more ws at n m h e l (inr q) =
    ap (take (n - m)) (drop-drop m at (flat_map word_cells ws)
    ∙ ap (λ k. drop k (flat_map word_cells ws)) (let z : at + m ≡ 64 = omega (arith, e, q, l) in z)
    ∙ drop-words ws 1 (omega (arith, h)) ∙ ap (flat_map word_cells) (sym (words-dropped ws 1)))

pub begun-at : (ws : List ℕ) (at n m rest : ℕ) → rest ≡ n - m → 0 < length ws → at < 64 → m ≡ min n (64 - at)
    → drop at (low_cells (at + m) (get_or ws 0 0))
    ++ take rest (flat_map word_cells (take (length ws - 1) (drop 1 ws)))
    ≡ cells_in ws at n
begun-at ws at n m rest r h l e =
    let all = flat_map word_cells ws in
    let more = flat_map word_cells (take (length ws - 1) (drop 1 ws)) in
    let front = front-from ws 0 (at + m) h (omega (arith, e, l)) in
    ap (λ k. drop at (low_cells (at + m) (get_or ws 0 0)) ++ take k more) r
    ∙ sym (ap (λ k. take k (drop at all)) (let s : n ≡ m + (n - m) = omega (arith, e) in s)
    ∙ take-add m (n - m) (drop at all)
    ∙ ap₂ ◌++◌ (sym (drop-take at m all) ∙ ap (drop at) front)
    (at-more ws at n m h e l (cases_lt n (64 - at))))

-- the words from one on
pub words-from : (ws : List ℕ) (first len : ℕ) → first / 64 ≤ length ws
    → cells_in (take (length ws - first / 64) (drop (first / 64) ws)) (first % 64) len ≡ cells_in ws first len
words-from ws first len h =
    ap (λ v. cells_in v (first % 64) len) (words-dropped ws (first / 64))
    ∙ words-behind ws (first / 64) (first % 64) len h
    ∙ ap (λ k. cells_in ws k len) (let e : 64 * (first / 64) + first % 64 ≡ first = omega arith in e)

-- the first cells of a word that was begun
pub front-here : (here : List Level) (word n : ℕ) → low_cells (length here) word ≡ here → n ≤ length here
    → low_cells n word ≡ take n here
front-here here word n e h =
    sym (ap (take n) (sym e) ∙ ap (λ k. take n (low_cells k word)) (let s : length here ≡ n + (length here - n)
    = omega (arith, h) in s) ∙ take-low_cells n (length here - n) word)

pub here-parts : (here next : List Level) (n : ℕ) → here ++ next ≡ take n here ++ (drop n here ++ next)
here-parts here next n = ap (λ v. v ++ next) (sym (take-append-drop n here)) ∙ append_assoc (take n here) (drop n here) next
