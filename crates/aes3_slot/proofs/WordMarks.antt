-- Preambles of blocks in words of cells one behind the other.
use Rattle.std.proofs.Common.{◌≡◌, ℕ, zero, suc, ◌+◌, ◌*◌, ◌/◌, ◌^◌, ◌<◌, ◌≤◌, ◌⊎◌, inl, inr, List, [], ◌∷◌, ◌++◌}
use Rattle.std.proofs.Common.{length, get_or, set, drop, sym, ap, ap₂, ◌∙◌, arith, append_assoc, append-nil, drop-drop}
use Rattle.std.proofs.Common.{length-drop, get_or-set_same, get_or-set_other}
use Rattle.std.specs.Prelude.{if◌then◌else◌}
use Rattle.std.specs.Int.{bit_at}
use Rattle.std.specs.List.{flat_map}
use Rattle.std.proofs.lemmas.Bool.{cases_eq}
use Rattle.std.proofs.lemmas.List.{drop-append-le, drop_at}
use Rattle.aes3_level.specs.Words.{low_cells, word_cells, word_len}
use Rattle.aes3_level.proofs.WordCells.{low_cells-add}
use Rattle.aes3_slot.specs.declared.mark.Mark.TheVariants.{Z}
use Rattle.aes3_slot.specs.Preambles.{begins_with, with_seven, words_with_seven}
use Rattle.aes3_slot.proofs.ReadSubframes.{length-word}
use Rattle.aes3_slot.proofs.Windows.{length-seven}
use Rattle.aes3_slot.proofs.Beginnings.{begins-append}

-- the cells of a word and of the one behind it are a front of all from there on
front-word : (w v : ℕ) (vs : List ℕ) (next : ℕ)
    → words_with_seven
    (w ∷ v ∷ vs) next ≡ with_seven w v ++ ((low_cells 57 (v / 2 ^ 7) ++ flat_map word_cells vs) ++ low_cells 7 next)
unfolding with_seven word_cells word_len
front-word w v vs next =
    ap (λ c. (low_cells 64 w ++ (c ++ flat_map word_cells vs)) ++ low_cells 7 next) (low_cells-add 7 57 v)
    ∙ ap (λ c. (low_cells 64 w ++ c) ++ low_cells 7 next)
    (append_assoc (low_cells 7 v) (low_cells 57 (v / 2 ^ 7)) (flat_map word_cells vs))
    ∙ ap (λ c. c ++ low_cells 7 next)
    (sym (append_assoc (low_cells 64 w) (low_cells 7 v) (low_cells 57 (v / 2 ^ 7) ++ flat_map word_cells vs)))
    ∙ append_assoc (low_cells 64 w ++ low_cells 7 v) (low_cells 57 (v / 2 ^ 7) ++ flat_map word_cells vs)
    (low_cells 7 next)

last-word : (w next : ℕ) → words_with_seven (w ∷ []) next ≡ with_seven w next
unfolding with_seven
last-word w next = ap (λ c. c ++ low_cells 7 next) (append-nil (word_cells w))

pub word-mark : (words : List ℕ) (next i k b : ℕ) → i < length words → k < 64
    → (i + 1 < length words → b ≡ get_or words (i + 1) 0) → (length words ≤ i + 1 → b ≡ next)
    → begins_with Z (drop k (with_seven (get_or words i 0) b)) ≡ begins_with Z
    (drop (64 * i + k) (words_with_seven words next))
word-mark [] next i k b h g inner outer = absurd (omega arith)
word-mark (w ∷ []) next zero k b h g inner outer =
    let n : k ≡ 64 * 0 + k = omega arith in
    ap₂ (λ v n. begins_with Z (drop n v)) (ap (with_seven w) (outer (omega arith)) ∙ sym (last-word w next)) n
word-mark (w ∷ v ∷ vs) next zero k b h g inner outer =
    let l = length-seven w v in
    let d = length-drop k (with_seven w v) in
    let n : k ≡ 64 * 0 + k = omega arith in
    let rest = (low_cells 57 (v / 2 ^ 7) ++ flat_map word_cells vs) ++ low_cells 7 next in
    ap (λ x. begins_with Z (drop k (with_seven w x))) (inner (omega arith))
    ∙ sym (begins-append Z (drop k (with_seven w v)) rest (omega (arith, l, d, g)))
    ∙ ap (begins_with Z) (sym (drop-append-le k (with_seven w v) rest (omega (arith, l, g)))
    ∙ ap₂ drop n (sym (front-word w v vs next)))
word-mark (w ∷ ws) next (suc i) k b h g inner outer =
    word-mark ws next i k b (omega arith) g
    (λ q. inner (omega arith) ∙ ap (λ n. get_or (w ∷ ws) n 0) (let n : suc i + 1 ≡ suc (i + 1) = omega arith in n))
    (λ q. outer (omega arith))
    ∙ ap (begins_with Z) (sym behind)
  where
    behind : drop (64 * suc i + k) (words_with_seven (w ∷ ws) next) ≡ drop (64 * i + k) (words_with_seven ws next)
    behind =
        ap₂ drop (let n : 64 * suc i + k ≡ 64 + (64 * i + k) = omega arith in
        n) (append_assoc (word_cells w) (flat_map word_cells ws) (low_cells 7 next))
        ∙ sym (drop-drop (64 * i + k) 64 (word_cells w ++ words_with_seven ws next))
        ∙ ap (drop (64 * i + k)) (drop_at (word_cells w) (words_with_seven ws next) 64 (length-word w))

-- one more word is told
pub one-more : (words out : List ℕ) (next i v b : ℕ) → i < length words → length out ≡ length words
    → ((k : ℕ) → k < 64 → bit_at v k ≡ (if begins_with Z (drop k (with_seven (get_or words i 0) b)) then 1 else 0))
    → (i + 1 < length words → b ≡ get_or words (i + 1) 0) → (length words ≤ i + 1 → b ≡ next)
    → ((j k : ℕ) → j < i → k < 64
    → bit_at (get_or out j 0) k
    ≡ (if begins_with Z (drop (64 * j + k) (words_with_seven words next)) then 1 else 0))
    → (j k : ℕ) → j < i + 1 → k < 64
    → bit_at (get_or (set out i v) j 0) k
    ≡ (if begins_with Z (drop (64 * j + k) (words_with_seven words next)) then 1 else 0)
one-more words out next i v b h l told inner outer before j k lt g = go (cases_eq j i)
  where
    go : (j ≡ i) ⊎ (j ≡ i → ⊥)
        → bit_at (get_or (set out i v) j 0) k
        ≡ (if begins_with Z (drop (64 * j + k) (words_with_seven words next)) then 1 else 0)
    go (inl e) =
        ap (λ n. bit_at (get_or (set out i v) n 0) k) e
        ∙ ap (λ x. bit_at x k) (get_or-set_same out i v 0 (omega (arith, h, l)))
        ∙ told k g ∙ ap (λ t. if t then 1 else 0) (word-mark words next i k b h g inner outer
        ∙ ap (λ n. begins_with Z (drop (64 * n + k) (words_with_seven words next))) (sym e))
    go (inr e) = ap (λ x. bit_at x k) (get_or-set_other out i j v 0 e) ∙ before j k (omega arith) g
