-- Words that are known to be the cells of a block's subframes.
use Rattle.std.proofs.Common.{Bool, ◌++◌, replicate, ap₂, ◌≡◌, ℕ, zero, suc, ◌+◌, ◌-◌, ◌<◌, ◌≤◌, ◌⊎◌, inl, inr}
use Rattle.std.proofs.Common.{List, [], ◌∷◌, false, length, map, take, drop, set, get_or, refl, sym, ap, subst, ◌∙◌}
use Rattle.std.proofs.Common.{arith, eqb, eq-eqb, ne_eqb, length-set, get_or-set_same, get_or-set_other}
use mir.Val.{bool_byte}
use Rattle.std.specs.List.{filter, flat_map}
use Rattle.std.proofs.lemmas.Bool.{cases_eq, cases_lt}
use Rattle.std.proofs.lemmas.List.{map-append, set-get_or}
use Rattle.aes3_level.specs.declared.level.Level.{Level}
use Rattle.aes3_level.specs.declared.level.Level.TheVariants.{Low, High}
use Rattle.aes3_level.specs.Cells.{line, other}
use Rattle.aes3_level.proofs.WordLists.{words-more}
use Rattle.aes3_level.specs.Words.{word_cells}
use Rattle.aes3_slot.specs.declared.mark.Mark.{Mark}
use Rattle.aes3_bits.specs.Bits.{odd_ones}
use Rattle.aes3_slot.specs.Slots.{payload_len, with_parity}
use Rattle.aes3_slot.specs.Reading.{read_bits, same}
use Rattle.aes3_slot.specs.ReadWords.{read_word, read_words}
use Rattle.aes3_slot.proofs.Subframes.{odd_ones-with_parity}
use Rattle.aes3_slot.proofs.Unique.{read-slots}
use Rattle.aes3_frame.specs.Blocks.{block_cells, block_runs, mark_at}
use Rattle.aes3_frame.specs.Gathered.{IsRight, AreRight, with_first}
use Rattle.aes3_frame.proofs.ReadCells.{carried-payload, payloads-carried}
use Rattle.aes3_frame.proofs.Runs.{cells-each}
use Rattle.aes3_frame.proofs.SlotWords.{carried}

-- words that are all right are a block's cells
pub right-cells : (s : Level) (n : ℕ) (words : List ℕ) → length words ≤ n → AreRight s n words
    → flat_map word_cells words ≡ block_cells s (map (take payload_len) (read_words words))
right-cells s n words l right =
    cells-each carried carried-payload s words words (length words) refl refl (λ i h. right i (omega arith))
    ∙ ap (block_cells s) (payloads-carried words)

-- none of them has an odd number of ones
pub even-right : (s : Level) (m : Mark) (w : ℕ) → IsRight s m w → odd_ones (read_word w) ≡ false
even-right s m w h =
    let p = take payload_len (read_word w) in
    ap (λ c. odd_ones (read_bits (drop 8 c))) h ∙ ap odd_ones (read-slots s m (with_parity p)) ∙ odd_ones-with_parity p

none-odd : (s : Level) (marks : ℕ → Mark) (words : List ℕ)
    → ((j : ℕ) → j < length words → IsRight s (marks j) (get_or words j 0))
    → filter odd_ones (read_words words) ≡ []
none-odd s marks [] h = refl
none-odd s marks (w ∷ words) h =
    rw (even-right s (marks 0) w (h 0 (omega arith)))
    (none-odd s (λ j. marks (suc j)) words (λ j g. h (suc j) (omega arith)))

pub right-even : (s : Level) (n : ℕ) (words : List ℕ) → length words ≤ n → AreRight s n words
    → 0 ≡ length (filter odd_ones (read_words words))
right-even s n words l right = ap length (sym (none-odd s mark_at words (λ j g. right j (omega arith))))

-- more words put behind some that are known to be right
pub right-behind : (first s : Level) (right known subframe more : ℕ) (words new : List ℕ) → AreRight first right words
    → ((j : ℕ) → j < known → ((j < subframe) × (j < right) × (first ≡ s)) ⊎ ((subframe ≤ j) × (j < subframe + more)))
    → ((j : ℕ) → j < subframe → get_or new j 0 ≡ get_or words j 0)
    → ((i : ℕ) → i < more → IsRight s (mark_at (subframe + i)) (get_or new (subframe + i) 0)) → AreRight s known new
right-behind first s right known subframe more words new old parts same put j h =
    elim (parts j h) [
      | inl p ↦ subst (λ t. IsRight t (mark_at j) (get_or new j 0)) p.2
          (subst (IsRight first (mark_at j)) (sym (same j p.0)) (old j p.1))
      | inr p ↦
          let e : subframe + (j - subframe) ≡ j = omega (arith, p.0) in
          subst (λ k. IsRight s (mark_at k) (get_or new k 0)) e (put (j - subframe) (omega (arith, p.1, p.0)))
    ]

-- a list with others put into it
pub length-with_first : (place : ℕ) (kept new : List ℕ) (n : ℕ) → length (with_first place kept new n) ≡ length kept
length-with_first place kept new zero = refl
length-with_first place kept new (suc n) = length-set (with_first place kept new n) (place + n) (get_or new n 0)
    ∙ length-with_first place kept new n

pub with_first-below : (place : ℕ) (kept new : List ℕ) (n j : ℕ) → j < place
    → get_or (with_first place kept new n) j 0 ≡ get_or kept j 0
with_first-below place kept new zero j h = refl
with_first-below place kept new (suc n) j h =
    get_or-set_other (with_first place kept new n) (place + n) j (get_or new n 0) 0 (λ e. omega arith)
    ∙ with_first-below place kept new n j h

pub with_first-at : (place : ℕ) (kept new : List ℕ) (n i : ℕ) → place + n ≤ length kept → i < n
    → get_or (with_first place kept new n) (place + i) 0 ≡ get_or new i 0
with_first-at place kept new zero i l h = absurd (omega arith)
with_first-at place kept new (suc n) i l h =
    go (cases_eq i n) (λ e. with_first-at place kept new n i (omega (arith, l)) (below e))
  where
    below : (i ≡ n → ⊥) → i < n
    below e = elim (cases_lt i n) [ inl b ↦ b | inr g ↦ absurd (e (omega (arith, g, h))) ]

    go : (i ≡ n) ⊎ (i ≡ n → ⊥) → ((i ≡ n → ⊥) → get_or (with_first place kept new n) (place + i) 0 ≡ get_or new i 0)
        → get_or (with_first place kept new (suc n)) (place + i) 0 ≡ get_or new i 0
    go (inl e) before =
        let k = length-with_first place kept new n in
        ap (λ v. get_or (with_first place kept new (suc n)) (place + v) 0) e
        ∙ get_or-set_same (with_first place kept new n) (place + n) (get_or new n 0) 0 (omega (arith, k, l))
        ∙ ap (λ v. get_or new v 0) (sym e)
    go (inr e) before =
        get_or-set_other (with_first place kept new n) (place + n) (place + i) (get_or new n 0) 0
        (λ q. e (omega (arith, q)))
        ∙ before e

-- how many more there are by a test
pub one-more : (wrong more i : ℕ) → more ≡ bool_byte (eqb wrong 0) → i < more → (i ≡ 0) × (wrong ≡ 0)
one-more wrong more i e h = go (cases_eq wrong 0)
  where
    go : (wrong ≡ 0) ⊎ (wrong ≡ 0 → ⊥) → (i ≡ 0) × (wrong ≡ 0)
    go (inl z) =
        let one : more ≡ 1 = e ∙ ap bool_byte (eq-eqb wrong 0 z) in
        (omega (arith, one, h), z)
    go (inr n) =
        let none : more ≡ 0 = e ∙ ap bool_byte (ne_eqb wrong 0 n) in
        absurd (omega (arith, none, h))

-- words each of whose cells is at the other level
pub inverted-more : (words cells : List ℕ) (i v : ℕ) → i < length words → i < length cells
    → flat_map word_cells (take i cells) ≡ map other (flat_map word_cells (take i words))
    → word_cells v ≡ map other (word_cells (get_or words i 0))
    → flat_map word_cells (take (i + 1) (set cells i v)) ≡ map other (flat_map word_cells (take (i + 1) words))
inverted-more words cells i v h l e f =
    let w = get_or words i 0 in
    words-more cells i v l ∙ ap₂ ◌++◌ e f ∙ sym (map-append other (flat_map word_cells (take i words)) (word_cells w))
    ∙ ap (map other) (sym (words-more words i w h)
    ∙ ap (λ ws. flat_map word_cells (take (i + 1) ws)) (set-get_or words i 0))

-- a line after the other level
run-other : (n : ℕ) (s : Level) → map other (replicate n s) ≡ replicate n (other s)
run-other zero s = refl
run-other (suc n) s = ap (λ t. other s ∷ t) (run-other n s)

pub line-other : (s : Level) (runs : List ℕ) → map other (line s runs) ≡ line (other s) runs
line-other s [] = refl
line-other s (n ∷ runs) = map-append other (replicate n (other s)) (line (other s) runs)
    ∙ ap₂ ◌++◌ (run-other n (other s)) (line-other (other s) runs)

other-level : (a b : Level) → same a b ≡ false → other a ≡ b
other-level Low Low h = cc
other-level Low High h = refl
other-level High Low h = refl
other-level High High h = cc

pub block-other : (s t : Level) (words : List ℕ) (b : List (List Bool)) → flat_map word_cells words ≡ block_cells s b
    → same s t ≡ false
    → map other (flat_map word_cells words) ≡ block_cells t b
unfolding block_cells
block-other s t words b e n = ap (map other) e ∙ line-other s (block_runs b)
    ∙ ap (λ l. line l (block_runs b)) (other-level s t n)
