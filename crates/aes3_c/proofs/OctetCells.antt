-- Cells of octets, from one on, and those of words that are made of them.
use Rattle.std.proofs.Common.{◌≡◌, ℕ, ◌+◌, ◌-◌, ◌*◌, ◌/◌, ◌^◌, ◌≤◌, List, ◌++◌, length, take, drop}
use Rattle.std.proofs.Common.{ap, ◌∙◌, sym, arith}
use Rattle.std.proofs.lemmas.List.{drop-drop, drop-take, drop_at, length-drop, length-take, length-take-le}
use Rattle.std.proofs.lemmas.List.{take-append-drop, take-take, take_at}
use Rattle.std.proofs.lemmas.Slice.{take-put_mid}
use borrow.Rule.Slice.PartMut.{put_mid}
use Rattle.aes3_cell.specs.Packed.{cells_of_octets}
use Rattle.aes3_level.specs.Words.{low_cells, word_cells, word_len}
use Rattle.aes3_cell.proofs.PackedCells.{cells_of_octets-append, length-cells_of_octets}
use Rattle.aes3_level.proofs.WordCells.{drop-low_cells, take-low_cells}
use Rattle.aes3_c.specs.Octets.{cells_from}

-- the cells of the first octets, and of the others
length-front : (k : ℕ) (octets : List ℕ) → k ≤ length octets → length (cells_of_octets (take k octets)) ≡ 8 * k
length-front k octets h = length-cells_of_octets (take k octets) ∙ ap (λ n. 8 * n) (length-take-le k octets h)

split : (k : ℕ) (octets : List ℕ)
    → cells_of_octets octets ≡ cells_of_octets (take k octets) ++ cells_of_octets (drop k octets)
split k octets = ap cells_of_octets (sym (take-append-drop k octets))
    ∙ cells_of_octets-append (take k octets) (drop k octets)

pub take-octets : (k : ℕ) (octets : List ℕ) → k ≤ length octets
    → take (8 * k) (cells_of_octets octets) ≡ cells_of_octets (take k octets)
take-octets k octets h =
    ap (take (8 * k)) (split k octets)
    ∙ take_at (cells_of_octets (take k octets)) (cells_of_octets (drop k octets)) (8 * k) (length-front k octets h)

pub drop-octets : (k : ℕ) (octets : List ℕ) → k ≤ length octets
    → drop (8 * k) (cells_of_octets octets) ≡ cells_of_octets (drop k octets)
drop-octets k octets h =
    ap (drop (8 * k)) (split k octets)
    ∙ drop_at (cells_of_octets (take k octets)) (cells_of_octets (drop k octets)) (8 * k) (length-front k octets h)

-- those from one on are those of the octets from its own on
pub cells-behind : (octets : List ℕ) (k s n : ℕ) → k ≤ length octets
    → cells_from (drop k octets) s n ≡ cells_from octets (8 * k + s) n
cells-behind octets k s n h =
    ap (λ c. take n (drop s c)) (sym (drop-octets k octets h))
    ∙ ap (take n) (drop-drop s (8 * k) (cells_of_octets octets))

pub cells-of-front : (octets : List ℕ) (k m n : ℕ) → k + m ≤ length octets → n ≤ 8 * m
    → take n (cells_of_octets (take m (drop k octets))) ≡ cells_from octets (8 * k) n
cells-of-front octets k m n h l =
    let d = length-drop k octets in
    ap (take n) (sym (take-octets m (drop k octets) (omega (arith, d))))
    ∙ take-take n (8 * m) (cells_of_octets (drop k octets)) l
    ∙ ap (take n) (sym (drop-octets k octets (omega arith)))

-- those of a word whose first octets are these
pub cells-of-word : (octets eight : List ℕ) (w k s m n : ℕ) → word_cells w ≡ cells_of_octets eight
    → take m eight ≡ take m (drop k octets) → m ≤ 8 → k + m ≤ length octets → s + n ≤ 8 * m
    → low_cells n (w / 2 ^ s) ≡ cells_from octets (8 * k + s) n
unfolding word_cells word_len
cells-of-word octets eight w k s m n e f few h t =
    let d = length-drop k octets in
    let same = ap length f ∙ length-take-le m (drop k octets) (omega (arith, d)) in
    let there = length-take m eight in
    let l : m ≤ length eight = omega (arith, same, there) in
    let rest = 64 - (s + n) in
    let all : s + n + rest ≡ 64 = omega arith in
    let x = cells_of_octets eight in
    let front : low_cells (s + n) w ≡ take (s + n) x
    = sym (take-low_cells (s + n) rest w) ∙ ap (λ i. take (s + n) (low_cells i w)) all ∙ ap (take (s + n)) e in
    sym (drop-low_cells s n w) ∙ ap (drop s) (front
    ∙ sym (take-take (s + n) (8 * m) x t) ∙ ap (take (s + n)) (take-octets m eight l ∙ ap cells_of_octets f)
    ∙ cells-of-front octets k m (s + n) h t)
    ∙ drop-take s n (drop (8 * k) (cells_of_octets octets))
    ∙ ap (take n) (drop-drop s (8 * k) (cells_of_octets octets))

-- what was put at the front of a list
pub put-front : (k m : ℕ) (xs ys : List ℕ) → m ≡ length ys → take m (put_mid 0 k xs ys) ≡ ys
put-front k m xs ys h = take-put_mid 0 k xs ys m (omega arith) (omega arith)
