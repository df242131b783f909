-- The places at which levels turn, of words and of the runs between them.
use Rattle.std.proofs.Common.{ℕ, zero, suc, ◌≡◌, ◌+◌, ◌-◌, ◌*◌, ◌/◌, ◌%◌, ◌^◌, ◌<◌, ◌≤◌, ◌⊎◌, inl, inr, nat_eq, Bool, true, false}
use Rattle.std.proofs.Common.{List, [], ◌∷◌, ◌++◌, length, take, get_or, set, refl, sym, ap, ap₂, ◌∙◌, arith, if◌then◌else◌}
use Rattle.std.proofs.Common.{append-nil}
use mir.Val.{bool_byte}
use Rattle.std.specs.Int.{bit_at}
use Rattle.std.specs.List.{flat_map}
use Rattle.std.proofs.lemmas.Grind.{flat_map-append}
use Rattle.std.proofs.lemmas.List.{take_more, take_more_set, take_all, get_or-take, length-take, length-take-le}
use Rattle.aes3_level.proofs.WordCells.{word_len_64}
use Rattle.aes3_cell.proofs.ManyWords.{length-words}
use Rattle.aes3_capture_recovery.specs.Endings.{level_if}
use Rattle.std.specs.Int.Bits.{bit_or, bit_xor}
use Rattle.std.proofs.lemmas.Nat.Bits.{bit_at_lowest, bit_at-suc, bit_at_xor, bit_at_or, bit_at-zero}
use Rattle.aes3_level.specs.declared.level.Level.{Level}
use Rattle.aes3_level.specs.declared.level.Level.TheVariants.{Low, High}
use Rattle.aes3_level.specs.Cells.{after, other}
use Rattle.aes3_level.specs.Words.{level_of, low_cells, word_cells, word_len}
use Rattle.aes3_level.proofs.WordCells.{low_cells-suc}
use Rattle.aes3_level.proofs.Moves.{shl-above}
use Rattle.aes3_level.proofs.Runs.{other-other}
use Rattle.aes3_capture_recovery.specs.Recovering.{runs_to_end}
use Rattle.aes3_capture_recovery.specs.Turns.{gaps, last_place, set_bits, turns}
use Rattle.aes3_capture_recovery.proofs.RunsToEnd.{end-one, end-edge}
use Rattle.aes3_level.proofs.CellsIn.{length-front_words}

-- one level more, of the level that was and of the other
turns-same : (s : Level) (place : ℕ) (levels : List Level) → turns s place (s ∷ levels) ≡ turns s (suc place) levels
turns-same Low place levels = refl
turns-same High place levels = refl

turns-other : (s : Level) (place : ℕ) (levels : List Level)
    → turns s place (other s ∷ levels) ≡ place ∷ turns (other s) (suc place) levels
turns-other Low place levels = refl
turns-other High place levels = refl

pub turns-none : (s : Level) (place : ℕ) → turns s place [] ≡ []
turns-none Low place = refl
turns-none High place = refl

-- a level is that of another or the other one
same-or : (s t : Level) → (t ≡ s) ⊎ (t ≡ other s)
same-or Low Low = inl refl
same-or Low High = inr refl
same-or High Low = inr refl
same-or High High = inl refl

-- the level behind these
abbrev pub level_behind : Level → List Level → Level
level_behind s [] = s
level_behind s (level ∷ levels) = level_behind level levels

-- the places of more levels behind these
pub turns-append : (s : Level) (place : ℕ) (xs ys : List Level)
    → turns s place (xs ++ ys) ≡ turns s place xs ++ turns (level_behind s xs) (place + length xs) ys
turns-append s place [] ys =
    ap (λ n. turns s n ys) (let e : place ≡ place + 0 = omega arith in e)
    ∙ ap (λ x. x ++ turns s (place + 0) ys) (sym (turns-none s place))
turns-append s place (x ∷ xs) ys = go (turns-append x (suc place) xs ys) (same-or s x)
  where
    moved : turns (level_behind x xs) (suc place + length xs) ys
        ≡ turns (level_behind x xs) (place + length (x ∷ xs)) ys
    moved = ap (λ n. turns (level_behind x xs) n ys) (omega arith)

    go : turns x (suc place) (xs ++ ys)
        ≡ turns x (suc place) xs ++ turns (level_behind x xs) (suc place + length xs) ys
        → (x ≡ s) ⊎ (x ≡ other s)
        → turns s place (x ∷ (xs ++ ys))
        ≡ turns s place (x ∷ xs) ++ turns (level_behind x xs) (place + length (x ∷ xs)) ys
    go next (inl e) =
        ap (λ t. turns s place (t ∷ (xs ++ ys))) e ∙ turns-same s place (xs ++ ys)
        ∙ ap (λ t. turns t (suc place) (xs ++ ys)) (sym e)
        ∙ next
        ∙ ap₂ (λ a b. a ++ b)
        (ap (λ t. turns t (suc place) xs) e ∙ sym (turns-same s place xs)
        ∙ ap (λ t. turns s place (t ∷ xs)) (sym e)) moved
    go next (inr e) =
        ap (λ t. turns s place (t ∷ (xs ++ ys))) e ∙ turns-other s place (xs ++ ys)
        ∙ ap (λ t. place ∷ turns t (suc place) (xs ++ ys)) (sym e)
        ∙ ap (λ l. place ∷ l) next
        ∙ ap₂ (λ a b. a ++ b)
        (ap (λ t. place ∷ turns t (suc place) xs) e ∙ sym (turns-other s place xs)
        ∙ ap (λ t. turns s place (t ∷ xs)) (sym e)) moved

-- the runs between these places, and what lies behind the last of them
pub turned-runs : (s : Level) (place from : ℕ) (levels more : List Level) → from ≤ place
    → runs_to_end s (place - from) (levels ++ more)
    ≡ gaps from (turns s place levels)
    ++ runs_to_end (other (after (other s) (gaps from (turns s place levels))))
    (place + length levels - last_place from (turns s place levels)) more
turned-runs s place from [] more near =
    ap (λ n. runs_to_end s n more) (let e : place - from ≡ place + 0 - from = omega arith in e)
    ∙ ap (λ t. runs_to_end t (place + 0 - from) more) (sym (other-other s))
    ∙ ap (λ l. gaps from l ++ runs_to_end (other (after (other s) (gaps from l))) (place + 0 - last_place from l) more)
    (sym (turns-none s place))
turned-runs s place from (x ∷ levels) more near =
    go (turned-runs s (suc place) from levels more (omega (arith, near)))
    (turned-runs (other s) (suc place) place levels more (omega arith)) (same-or s x)
  where
    Goal : Level → Type 0
    Goal x = runs_to_end s (place - from) (x ∷ (levels ++ more))
        ≡ gaps from (turns s place (x ∷ levels))
        ++ runs_to_end (other (after (other s) (gaps from (turns s place (x ∷ levels)))))
        (place + suc (length levels) - last_place from (turns s place (x ∷ levels))) more

    Next : Level → ℕ → Type 0
    Next t from = runs_to_end t (suc place - from) (levels ++ more)
        ≡ gaps from (turns t (suc place) levels)
        ++ runs_to_end (other (after (other t) (gaps from (turns t (suc place) levels))))
        (suc place + length levels - last_place from (turns t (suc place) levels)) more

    same : Next s from → Goal s
    same next =
        let count : suc place + length levels ≡ place + suc (length levels) = omega arith in
        end-one s (place - from) (levels ++ more)
        ∙ ap (λ n. runs_to_end s n (levels ++ more))
        (let e : suc (place - from) ≡ suc place - from = omega (arith, near) in e)
        ∙ next
        ∙ ap (λ n. gaps from (turns s (suc place) levels)
        ++ runs_to_end (other (after (other s) (gaps from (turns s (suc place) levels))))
        (n - last_place from (turns s (suc place) levels)) more) count
        ∙ ap (λ l. gaps from l
        ++ runs_to_end (other (after (other s) (gaps from l))) (place + suc (length levels) - last_place from l) more)
        (sym (turns-same s place levels))

    differs : Next (other s) place → Goal (other s)
    differs next =
        let count : suc place + length levels ≡ place + suc (length levels) = omega arith in
        let one : 1 ≡ suc place - place = omega arith in
        end-edge s (place - from) (levels ++ more)
        ∙ ap (λ n. (place - from) ∷ runs_to_end (other s) n (levels ++ more)) one
        ∙ ap (λ l. (place - from) ∷ l) next
        ∙ ap (λ n. (place - from) ∷ gaps place (turns (other s) (suc place) levels)
        ++ runs_to_end (other (after (other (other s)) (gaps place (turns (other s) (suc place) levels))))
        (n - last_place place (turns (other s) (suc place) levels)) more) count
        ∙ ap (λ l. gaps from l
        ++ runs_to_end (other (after (other s) (gaps from l))) (place + suc (length levels) - last_place from l) more)
        (sym (turns-other s place levels))

    go : Next s from → Next (other s) place → (x ≡ s) ⊎ (x ≡ other s) → Goal x
    go a b (inl e) = rw e (same a)
    go a b (inr e) = rw e (differs b)

-- the bits of a word that differ from the one before them
abbrev pub AreChanges : ℕ → ℕ → ℕ → ℕ → Type 0
AreChanges count before word changes = (i : ℕ) → i < count
    → bit_at changes i ≡ (bit_at word i + bit_at (2 * word + before) i) % 2

level-bit : (bit : ℕ) → bit < 2 → (bit ≡ 0) ⊎ (bit ≡ 1)
level-bit zero few = inl refl
level-bit (suc zero) few = inr refl
level-bit (suc (suc n)) few = absurd (omega (arith, few))

-- the places of these bits
pub turns-bits : (count place before word changes : ℕ) → before < 2 → AreChanges count before word changes
    → set_bits count place changes ≡ turns (level_of before) place (low_cells count word)
unfolding set_bits
turns-bits zero place before word changes few are = sym (turns-none (level_of before) place)
turns-bits (suc count) place before word changes few are =
    go (λ are. turns-bits count (suc place) (word % 2) (word / 2) (changes / 2) (omega arith) are)
    (level-bit before few) (level-bit (word % 2) (omega arith))
  where
    one-place : place + 1 ≡ suc place
    one-place = omega arith

    first : changes % 2 ≡ (word % 2 + before) % 2
    first =
        let a = bit_at_lowest changes in
        let b = bit_at_lowest word in
        let d = bit_at_lowest (2 * word + before) in
        let e = are 0 (omega arith) in
        omega (arith, a, b, d, e, few)

    others : AreChanges count (word % 2) (word / 2) (changes / 2)
    others i below =
        let e = are (suc i) (omega (arith, below)) in
        let a = bit_at-suc changes i in
        let b = bit_at-suc word i in
        let d = bit_at-suc (2 * word + before) i in
        let half : (2 * word + before) / 2 ≡ word = omega (arith, few) in
        let whole : 2 * (word / 2) + word % 2 ≡ word = omega arith in
        let f = ap (λ n. bit_at n i) half in
        let g = ap (λ n. bit_at n i) whole in
        omega (arith, e, a, b, d, f, g)

    Below : Type 0
    Below = AreChanges count (word % 2) (word / 2) (changes / 2)
        → set_bits count (suc place) (changes / 2)
        ≡ turns (level_of (word % 2)) (suc place) (low_cells count (word / 2))

    rest : Below → set_bits count (place + 1) (changes / 2)
        ≡ turns (level_of (word % 2)) (suc place) (low_cells count (word / 2))
    rest below = ap (λ n. set_bits count n (changes / 2)) one-place ∙ below others

    Goal : ℕ → ℕ → ℕ → Type 0
    Goal changed a b = (if nat_eq changed 1 then place ∷ set_bits count (place + 1) (changes / 2)
        else set_bits count (place + 1) (changes / 2))
        ≡ turns (level_of a) place (level_of b ∷ low_cells count (word / 2))

    -- the places of the others, where the level of this bit is known
    known : Below → (b : ℕ) → word % 2 ≡ b → set_bits count (place + 1) (changes / 2)
        ≡ turns (level_of b) (suc place) (low_cells count (word / 2))
    known below b q = rest below ∙ ap (λ n. turns (level_of n) (suc place) (low_cells count (word / 2))) q

    all : (changed a b : ℕ) → changes % 2 ≡ changed → before ≡ a → word % 2 ≡ b → Goal changed a b
        → Goal (changes % 2) before (word % 2)
    all changed a b c p q goal = rw (c, p, q) goal

    go : Below → (before ≡ 0) ⊎ (before ≡ 1) → (word % 2 ≡ 0) ⊎ (word % 2 ≡ 1)
        → Goal (changes % 2) before (word % 2)
    go below (inl p) (inl q) = all 0 0 0 (omega (arith, first, p, q)) p q (known below 0 q)
    go below (inl p) (inr q) = all 1 0 1 (omega (arith, first, p, q)) p q (ap (λ l. place ∷ l) (known below 1 q))
    go below (inr p) (inl q) = all 1 1 0 (omega (arith, first, p, q)) p q (ap (λ l. place ∷ l) (known below 0 q))
    go below (inr p) (inr q) = all 0 1 1 (omega (arith, first, p, q)) p q (known below 1 q)

-- the bits before those of a word: its own, moved by one, and the one before it
moved-bit : (word before i : ℕ) → before < 2 → i < 64
    → bit_at (bit_or (word * 2 ^ 1 % 2 ^ 64) before) i ≡ bit_at (2 * word + before) i
moved-bit word before zero few below =
    let a = bit_at_or (word * 2 ^ 1 % 2 ^ 64) before 0 in
    let b = bit_at_lowest (word * 2 ^ 1 % 2 ^ 64) in
    let d = bit_at_lowest before in
    let e = bit_at_lowest (2 * word + before) in
    omega (arith, a, b, d, e, few)
moved-bit word before (suc i) few below =
    let a = bit_at_or (word * 2 ^ 1 % 2 ^ 64) before (suc i) in
    let b = shl-above word 1 (suc i) below (omega arith) in
    let one : suc i - 1 ≡ i = omega arith in
    let b2 = ap (bit_at word) one in
    let none : before / 2 ≡ 0 = omega (arith, few) in
    let d = bit_at-suc before i ∙ ap (λ n. bit_at n i) none ∙ bit_at-zero i in
    let half : (2 * word + before) / 2 ≡ word = omega (arith, few) in
    let e = bit_at-suc (2 * word + before) i ∙ ap (λ n. bit_at n i) half in
    omega (arith, a, b, b2, d, e)

-- the changes of a word of 64 bits, as the word and the word moved by one bit tell them
pub word-changes : (word before : ℕ) → before < 2
    → AreChanges 64 before word (bit_xor word (bit_or (word * 2 ^ 1 % 2 ^ 64) before))
word-changes word before few i below =
    bit_at_xor word (bit_or (word * 2 ^ 1 % 2 ^ 64) before) i
    ∙ ap (λ n. (bit_at word i + n) % 2) (moved-bit word before i few below)

-- the places at which a word turns
pub word-turns : (place before word : ℕ) → before < 2
    → set_bits 64 place (bit_xor word (bit_or (word * 2 ^ 1 % 2 ^ 64) before))
    ≡ turns (level_of before) place (word_cells word)
unfolding word_cells word_len
word-turns place before word few =
    turns-bits 64 place before word (bit_xor word (bit_or (word * 2 ^ 1 % 2 ^ 64) before)) few
    (word-changes word before few)

-- the level behind one more
level-more : (s t : Level) (levels : List Level) → level_behind s (levels ++ t ∷ []) ≡ t
level-more s t [] = refl
level-more s t (x ∷ levels) = level-more x t levels

-- the level behind a word is that of its last bit
pub word-behind : (s : Level) (word : ℕ) → word < 2 ^ 64 → level_behind s (word_cells word) ≡ level_of (word / 2 ^ 63)
unfolding word_cells word_len
word-behind s word few =
    ap (level_behind s) (low_cells-suc 63 word) ∙ level-more s (level_of (bit_at word 63)) (low_cells 63 word)
    ∙ ap level_of (let e : bit_at word 63 ≡ word / 2 ^ 63 = omega (arith, few) in e)

-- the level behind more
pub behind-append : (s : Level) (xs ys : List Level)
    → level_behind s (xs ++ ys) ≡ level_behind (level_behind s xs) ys
behind-append s [] ys = refl
behind-append s (x ∷ xs) ys = behind-append x xs ys

-- one word more of those from the first on
pub words-more : (words : List ℕ) (i : ℕ) → i < length words
    → flat_map word_cells (take (i + 1) words) ≡ flat_map word_cells (take i words) ++ word_cells (get_or words i 0)
words-more words i within =
    ap (flat_map word_cells) (take_more words i 0 within)
    ∙ flat_map-append word_cells (take i words) (get_or words i 0 ∷ [])
    ∙ ap (λ x. flat_map word_cells (take i words) ++ x) (append-nil (word_cells (get_or words i 0)))

-- the places at which words turn, and those of one word more
pub places-more : (first : ℕ) (s : Level) (words places : List ℕ) (i before : ℕ) → i < length words
    → before < 2 → level_of before ≡ level_behind s (flat_map word_cells (take i words))
    → places ≡ first ∷ turns s 128 (flat_map word_cells (take i words))
    → places ++ set_bits 64 (128 + 64 * i)
    (bit_xor (get_or words i 0) (bit_or (get_or words i 0 * 2 ^ 1 % 2 ^ 64) before))
    ≡ first ∷ turns s 128 (flat_map word_cells (take (i + 1) words))
places-more first s words places i before within few level are =
    let word = get_or words i 0 in
    let cells = flat_map word_cells (take i words) in
    let long : 128 + 64 * i ≡ 128 + length cells
    = let l = length-front_words words i (omega (arith, within)) in omega (arith, l) in
    ap₂ (λ a b. a ++ b) are
    (word-turns (128 + 64 * i) before word few
    ∙ ap₂ (λ t n. turns t n (word_cells word)) level long)
    ∙ ap (λ x. first ∷ x) (sym (turns-append s 128 cells (word_cells word)))
    ∙ ap (λ x. first ∷ turns s 128 x) (sym (words-more words i within))

-- the level behind one word more
pub level-next : (s : Level) (words : List ℕ) (i : ℕ) → i < length words → get_or words i 0 < 2 ^ 64
    → level_of (get_or words i 0 / 2 ^ 63) ≡ level_behind s (flat_map word_cells (take (i + 1) words))
level-next s words i within few =
    sym (word-behind (level_behind s (flat_map word_cells (take i words))) (get_or words i 0) few)
    ∙ sym (behind-append s (flat_map word_cells (take i words)) (word_cells (get_or words i 0)))
    ∙ ap (level_behind s) (sym (words-more words i within))

pub level-bool : (b : Bool) → level_of (bool_byte b) ≡ level_if b
level-bool true = refl
level-bool false = refl

pub bool-bit : (b : Bool) → bool_byte b < 2
bool-bit true = omega arith
bool-bit false = omega arith

-- one gap more
gaps-more : (first : ℕ) (more : List ℕ) (i : ℕ) → i < length more
    → gaps first (take (suc i) more)
    ≡ gaps first (take i more) ++ (get_or (first ∷ more) (suc i) 0 - get_or (first ∷ more) i 0) ∷ []
gaps-more first [] i within = absurd (omega (arith, within))
gaps-more first (p ∷ more) zero within = refl
gaps-more first (p ∷ more) (suc i) within = ap (λ l. (p - first) ∷ l) (gaps-more p more i (omega (arith, within)))

-- the gap behind place i of those in a list that begins with all of them
pub gaps-at : (first count : ℕ) (more places runs : List ℕ) (i run : ℕ) → i < count
    → take (count + 1) places ≡ first ∷ more → count + 1 ≤ length places → i < length runs
    → run ≡ get_or places (i + 1) 0 - get_or places i 0 → take i runs ≡ gaps first (take i more)
    → take (i + 1) (set runs i run) ≡ gaps first (take (i + 1) more)
gaps-at first count more places runs i run below are room within is before =
    let long = length-take-le (count + 1) places room in
    let same = ap length are in
    let at = sym (get_or-take (count + 1) places i 0 (omega (arith, below))) ∙ ap (λ l. get_or l i 0) are in
    let next = sym (get_or-take (count + 1) places (i + 1) 0 (omega (arith, below)))
    ∙ ap (λ l. get_or l (i + 1) 0) are in
    let one : i + 1 ≡ suc i = omega arith in
    take_more_set runs i run within
    ∙ ap₂ (λ a b. a ++ b ∷ []) before
    (is ∙ ap₂ (λ a b. a - b) (next ∙ ap (λ n. get_or (first ∷ more) n 0) one) at)
    ∙ sym (ap (λ n. gaps first (take n more)) one ∙ gaps-more first more i (omega (arith, below, long, same)))

-- all gaps
pub gaps-all : (first count : ℕ) (more places : List ℕ) → take (count + 1) places ≡ first ∷ more
    → gaps first (take count more) ≡ gaps first more
gaps-all first count more places are =
    let long = length-take (count + 1) places in
    let same = ap length are in
    ap (gaps first) (take_all count more (omega (arith, long, same)))

-- the last of these places is the one behind all others
last-is : (first : ℕ) (more : List ℕ) → get_or (first ∷ more) (length more) 0 ≡ last_place first more
last-is first [] = refl
last-is first (p ∷ more) = last-is p more

pub last-at : (first count : ℕ) (more places : List ℕ) → take (count + 1) places ≡ first ∷ more
    → count + 1 ≤ length places → get_or places count 0 ≡ last_place first more
last-at first count more places are room =
    let long = length-take-le (count + 1) places room in
    let same = ap length are in
    let e : count ≡ length more = omega (arith, long, same) in
    sym (get_or-take (count + 1) places count 0 (omega arith)) ∙ ap (λ l. get_or l count 0) are
    ∙ ap (λ n. get_or (first ∷ more) n 0) e ∙ last-is first more
