-- The levels of samples, and of samples one behind the other.
use Rattle.std.proofs.Common.{◌≡◌, ℕ, zero, suc, ◌+◌, ◌-◌, ◌*◌, ◌/◌, ◌%◌, ◌<◌, ◌≤◌, ◌⊎◌, inl, inr, List, [], ◌++◌, map, min}
use Rattle.std.proofs.Common.{length, get_or, take, drop, refl, sym, ap, ap₂, ◌∙◌, arith, length-append}
use Rattle.std.specs.Int.{bit_at}
use Rattle.std.specs.List.{flat_map, range_with_len}
use Rattle.std.proofs.lemmas.Bool.{cases_lt}
use Rattle.std.proofs.lemmas.List.{get_or-append-add, get_or-append_right, get_or_append_left, length-take-le}
use Rattle.std.proofs.lemmas.List.{take-append-drop}
use Rattle.std.proofs.lemmas.List.FromFn.{fill_by_all, get_or-map-range_with_len, length-map-range_with_len}
use Rattle.std.proofs.Math.Seq.{take-add}
use Rattle.aes3_level.specs.declared.level.Level.{Level}
use Rattle.aes3_level.specs.declared.level.Level.TheVariants.{Low}
use Rattle.aes3_level.specs.Words.{level_of, low_cells, word_cells, word_len}
use Rattle.aes3_level.proofs.WordCells.{length-low_cells, low_cells-at}
use Rattle.aes3_capture_recovery.specs.Levels.{AreLevels, AreWhole, AreWords, bit_of_line, bits_of_sample, level_in}
use Rattle.aes3_capture_recovery.specs.Levels.{levels_of_samples, sample_of, samples_in}
use Rattle.aes3_capture_recovery.specs.declared.edges.Unit.{Unit}
use Rattle.aes3_capture_recovery.specs.declared.edges.Unit.TheVariants.{Octets, Pairs}
use Rattle.aes3_capture_recovery.proofs.Turning.{words-more}

-- levels that are the same at each place, and those of more places
same-places : (f g : ℕ → Level) (n : ℕ) → ((k : ℕ) → k < n → f k ≡ g k)
    → map f (range_with_len 0 n) ≡ map g (range_with_len 0 n)
same-places f g n h =
    fill_by_all g (map f (range_with_len 0 n)) n Low (length-map-range_with_len f 0 n)
    (λ k l. get_or-map-range_with_len f 0 n k k Low l (omega arith) ∙ h k l)

places-more : (f : ℕ → Level) (n m : ℕ)
    → map f (range_with_len 0 (n + m)) ≡ map f (range_with_len 0 n) ++ map (λ j. f (n + j)) (range_with_len 0 m)
places-more f n m =
    sym (fill_by_all f (a ++ b) (n + m) Low
    (let all = length-append a b in omega (arith, all, long, more))
    (λ k l. each k l (cases_lt k n)))
  where
    a : List Level
    a = map f (range_with_len 0 n)

    b : List Level
    b = map (λ j. f (n + j)) (range_with_len 0 m)

    long : length a ≡ n
    long = length-map-range_with_len f 0 n

    more : length b ≡ m
    more = length-map-range_with_len (λ j. f (n + j)) 0 m

    each : (k : ℕ) → k < n + m → (k < n) ⊎ (n ≤ k) → get_or (a ++ b) k Low ≡ f k
    each k l (inl h) = get_or_append_left a b Low k (omega (arith, h, long))
        ∙ get_or-map-range_with_len f 0 n k k Low h (omega arith)
    each k l (inr h) = get_or-append_right a b n k Low long h
        ∙ get_or-map-range_with_len (λ j. f (n + j)) 0 m (k - n) (k - n) Low (omega (arith, l, h)) (omega arith)
        ∙ ap f (let e : n + (k - n) ≡ k = omega (arith, h) in e)

-- the levels of a word's lowest bits
low-places : (n w : ℕ) → low_cells n w ≡ map (λ i. level_of (bit_at w i)) (range_with_len 0 n)
low-places n w =
    fill_by_all (λ i. level_of (bit_at w i)) (low_cells n w) n Low (length-low_cells n w) (λ k l. low_cells-at n w k l)

pub levels-of-word : (unit : Unit) (octets : List ℕ) (word n : ℕ) → n ≡ samples_in unit (length octets)
    → ((i : ℕ) → i < n → bit_at word i ≡ bit_at (sample_of unit octets i) (bit_of_line unit))
    → low_cells n word ≡ levels_of_samples unit octets
unfolding levels_of_samples
levels-of-word unit octets word n many each =
    low-places n word
    ∙ same-places (λ i. level_of (bit_at word i)) (level_in unit octets) n (λ k l. ap level_of (each k l))
    ∙ ap (λ m. map (level_in unit octets) (range_with_len 0 m)) many

-- the levels of words
words-places : (f : ℕ → Level) (words : List ℕ) (i : ℕ) → i ≤ length words
    → ((k : ℕ) → k < i → low_cells 64 (get_or words k 0) ≡ map (λ j. f (64 * k + j)) (range_with_len 0 64))
    → flat_map word_cells (take i words) ≡ map f (range_with_len 0 (64 * i))
unfolding word_cells word_len
words-places f words zero within each = refl
words-places f words (suc i) within each =
    ap (λ n. flat_map word_cells (take n words)) (let e : suc i ≡ i + 1 = omega arith in e)
    ∙ words-more words i (omega (arith, within))
    ∙ ap₂ (λ a b. a ++ b) (words-places f words i (omega (arith, within)) (λ k l. each k (omega (arith, l))))
    (each i (omega arith))
    ∙ sym (places-more f (64 * i) 64)
    ∙ ap (λ n. map f (range_with_len 0 n)) (let e : 64 * i + 64 ≡ 64 * suc i = omega arith in e)

pub levels-of-words : (unit : Unit) (octets words : List ℕ) (count : ℕ) → bit_of_line unit < bits_of_sample unit
    → count ≤ length words → AreWords unit octets words count
    → flat_map word_cells (take count words) ≡ levels_of_samples unit octets
unfolding levels_of_samples
levels-of-words unit octets words count bit within are =
    words-places (level_in unit octets) words count within
    (λ k l. low-places 64 (get_or words k 0)
    ∙ same-places (λ i. level_of (bit_at (get_or words k 0) i)) (λ j. level_in unit octets (64 * k + j)) 64
    (λ j h. ap level_of (are.each k l bit j h)))
    ∙ ap (λ m. map (level_in unit octets) (range_with_len 0 m)) are.count_is

-- samples of octets before others, and behind whole ones
sample-front : (unit : Unit) (a b : List ℕ) (i : ℕ) → i < samples_in unit (length a)
    → sample_of unit (a ++ b) i ≡ sample_of unit a i
sample-front (Octets bit) a b i h = get_or_append_left a b 0 i h
sample-front (Pairs bit) a b i h =
    ap₂ (λ x y. x + 256 * y) (get_or_append_left a b 0 (2 * i) (omega (arith, h)))
    (get_or_append_left a b 0 (2 * i + 1) (omega (arith, h)))

sample-behind : (unit : Unit) (a b : List ℕ) (j : ℕ) → AreWhole unit (length a)
    → sample_of unit (a ++ b) (samples_in unit (length a) + j) ≡ sample_of unit b j
sample-behind (Octets bit) a b j whole = get_or-append-add a b j 0
sample-behind (Pairs bit) a b j whole =
    let first : 2 * (length a / 2 + j) ≡ length a + 2 * j = omega (arith, whole) in
    let second : 2 * (length a / 2 + j) + 1 ≡ length a + (2 * j + 1) = omega (arith, whole) in
    ap₂ (λ x y. x + 256 * y)
    (ap (λ k. get_or (a ++ b) k 0) first ∙ get_or-append-add a b (2 * j) 0)
    (ap (λ k. get_or (a ++ b) k 0) second ∙ get_or-append-add a b (2 * j + 1) 0)

samples-more : (unit : Unit) (n m : ℕ) → AreWhole unit n → samples_in unit (n + m) ≡ samples_in unit n + samples_in unit m
samples-more (Octets bit) n m whole = refl
samples-more (Pairs bit) n m whole = omega (arith, whole)

-- the levels of whole samples, and of those behind them
pub levels-join : (unit : Unit) (a b : List ℕ) → AreWhole unit (length a)
    → levels_of_samples unit (a ++ b) ≡ levels_of_samples unit a ++ levels_of_samples unit b
unfolding levels_of_samples
levels-join unit a b whole =
    let n = samples_in unit (length a) in
    let m = samples_in unit (length b) in
    ap (λ k. map (level_in unit (a ++ b)) (range_with_len 0 k))
    (ap (samples_in unit) (length-append a b) ∙ samples-more unit (length a) (length b) whole)
    ∙ places-more (level_in unit (a ++ b)) n m
    ∙ ap₂ (λ x y. x ++ y)
    (same-places (level_in unit (a ++ b)) (level_in unit a) n
    (λ k l. ap (λ s. level_of (bit_at s (bit_of_line unit))) (sample-front unit a b k l)))
    (same-places (λ j. level_in unit (a ++ b) (n + j)) (level_in unit b) m
    (λ k l. ap (λ s. level_of (bit_at s (bit_of_line unit))) (sample-behind unit a b k whole)))

-- no octets have no samples
pub levels-nothing : (unit : Unit) → levels_of_samples unit [] ≡ []
unfolding levels_of_samples
levels-nothing (Octets bit) = refl
levels-nothing (Pairs bit) = refl

-- the levels of the first samples of a word: those of octets that others follow
pub levels-of-front : (unit : Unit) (octets more all : List ℕ) (word len n : ℕ) → all ≡ octets ++ more
    → n ≡ samples_in unit (length octets) → n ≤ len → bit_of_line unit < bits_of_sample unit
    → AreLevels unit all word len → low_cells n word ≡ levels_of_samples unit octets
levels-of-front unit octets more all word len n is many few bit are =
    levels-of-word unit octets word n many
    (λ i h. are.each bit i (omega (arith, h, few))
    ∙ ap (λ o. bit_at (sample_of unit o i) (bit_of_line unit)) is
    ∙ ap (λ s. bit_at s (bit_of_line unit)) (sample-front unit octets more i (omega (arith, h, many))))

-- how many samples the octets of a chunk are that is not whole, where a sample has `len` octets
pub samples-rest : (unit : Unit) (n all len count some : ℕ) → 8 * len ≡ bits_of_sample unit → n < 64 → all ≡ 64
    → count ≡ samples_in unit all → some ≡ min (n / len) count → (some ≡ samples_in unit n) × (some ≤ count)
samples-rest (Octets bit) n all len count some bits few whole counted is =
    let one : len ≡ 1 = omega (arith, bits) in
    let s : some ≡ min (n / 1) count = is ∙ ap (λ l. min (n / l) count) one in
    (omega (arith, s, few, whole, counted), omega (arith, s))
samples-rest (Pairs bit) n all len count some bits few whole counted is =
    let two : len ≡ 2 = omega (arith, bits) in
    let s : some ≡ min (n / 2) count = is ∙ ap (λ l. min (n / l) count) two in
    (omega (arith, s, few, whole, counted), omega (arith, s))

-- octets up to a place are whole samples where it is one of so many
pub whole-front : (unit : Unit) (at : ℕ) (octets : List ℕ) → at ≤ length octets → at % 64 ≡ 0
    → AreWhole unit (length (take at octets))
whole-front (Octets bit) at octets within places = omega arith
whole-front (Pairs bit) at octets within places =
    let long = length-take-le at octets within in
    omega (arith, long, places)

-- one piece more of octets that were taken up to a place
pub levels-more : (unit : Unit) (octets : List ℕ) (at n : ℕ) → at ≤ length octets → at % 64 ≡ 0
    → levels_of_samples unit (take (at + n) octets)
    ≡ levels_of_samples unit (take at octets) ++ levels_of_samples unit (take n (drop at octets))
levels-more unit octets at n within places =
    ap (levels_of_samples unit) (take-add at n octets)
    ∙ levels-join unit (take at octets) (take n (drop at octets)) (whole-front unit at octets within places)

pub levels-rest : (unit : Unit) (octets : List ℕ) (at : ℕ) → at ≤ length octets → at % 64 ≡ 0
    → levels_of_samples unit octets ≡ levels_of_samples unit (take at octets) ++ levels_of_samples unit (drop at octets)
levels-rest unit octets at within places =
    ap (levels_of_samples unit) (sym (take-append-drop at octets))
    ∙ levels-join unit (take at octets) (drop at octets) (whole-front unit at octets within places)
