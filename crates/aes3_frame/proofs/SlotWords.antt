-- Blocks of the bits that words of cells carry.
use Rattle.std.proofs.Common.{◌≡◌, ℕ, zero, suc, ◌+◌, ◌*◌, ◌/◌, ◌%◌, ◌^◌, ◌<◌, ◌≤◌, ◌⊎◌, inl, inr, List, [], ◌∷◌, Bool}
use Rattle.std.proofs.Common.{true, not, eqb, length, map, set, get_or, take, refl, sym, ap, ◌∙◌, arith}
use Rattle.std.specs.Prelude.{count_ones}
use Rattle.std.specs.List.{filter}
use Rattle.std.proofs.lemmas.Bool.{cases_eq}
use Rattle.std.proofs.lemmas.List.{length-map, ext_get_or, get_or-map, get_or-set_same, get_or-set_other}
use Rattle.std.proofs.lemmas.Simd.{map-map}
use Rattle.aes3_level.specs.Words.{level_of, low_cells, word_cells, word_len}
use Rattle.aes3_level.proofs.WordCells.{drop-low_cells}
use Rattle.aes3_bits.specs.Bits.{low_bits, odd_ones}
use Rattle.aes3_slot.specs.Slots.{payload_len, payload_bits, slots_len, slots_bits}
use Rattle.aes3_slot.specs.Reading.{differs, read_bits}
use Rattle.aes3_slot.specs.ReadWords.{read_word, read_words}
use Rattle.aes3_bits.proofs.Bits.{odd_ones-low_bits}
use Rattle.aes3_slot.proofs.Subframes.{not-not}
use Rattle.aes3_frame.specs.Files.{is_lawful, payload_of}
use Rattle.aes3_frame.proofs.BitLemmas.{low_bits-mod, moved-payload}

take-low : (m n w : ℕ) → m ≤ n → take m (low_bits n w) ≡ low_bits m w
take-low zero n w h = refl
take-low (suc m) zero w h = absurd (omega arith)
take-low (suc m) (suc n) w h = ap (λ x. eqb (w % 2) 1 ∷ x) (take-low m n (w / 2) (omega arith))

-- the payload in the lowest bits of the slots
pub payload-low : (w : ℕ) (bits : List Bool) → slots_bits w ≡ bits → payload_bits (w % 2 ^ 27) ≡ take payload_len bits
unfolding payload_len slots_len
payload-low w bits e = low_bits-mod 27 w ∙ sym (take-low 27 28 w (omega arith)) ∙ ap (take 27) e

pub payload-even : (s : ℕ) (bits : List Bool) → s < 2 ^ 28 → slots_bits s ≡ bits
    → payload_of (s * 16 % 2 ^ 32) ≡ take payload_len bits
unfolding payload_len
payload-even s bits h e = moved-payload s h ∙ sym (low_bits-mod 27 s) ∙ payload-low s bits e

-- two cells differ where just one of them is high
odd-read : (k w : ℕ) → odd_ones (low_bits (2 * k) w) ≡ odd_ones (read_bits (low_cells (2 * k) w))
odd-read zero w = refl
odd-read (suc k) w =
    let n : 2 * suc k ≡ suc (suc (2 * k)) = omega arith in
    ap (λ m. odd_ones (low_bits m w)) n
    ∙ two (w % 2) (w / 2 % 2) (omega arith) (omega arith) (low_bits (2 * k) (w / 2 / 2))
    (read_bits (low_cells (2 * k) (w / 2 / 2))) (odd-read k (w / 2 / 2))
    ∙ sym (ap (λ m. odd_ones (read_bits (low_cells m w))) n)
  where
    two : (x y : ℕ) → x < 2 → y < 2 → (a b : List Bool) → odd_ones a ≡ odd_ones b
        → odd_ones (eqb x 1 ∷ eqb y 1 ∷ a) ≡ odd_ones (differs (level_of x) (level_of y) ∷ b)
    two zero zero h g a b e = e
    two zero (suc zero) h g a b e = ap not e
    two (suc zero) zero h g a b e = ap not e
    two (suc zero) (suc zero) h g a b e = not-not (odd_ones a) ∙ e
    two x (suc (suc y)) h g a b e = absurd (omega arith)
    two (suc (suc x)) y h g a b e = absurd (omega arith)

pub odd-word : (w : ℕ) → w < 2 ^ 64 → eqb (count_ones (w / 2 ^ 8) % 2) 1 ≡ odd_ones (read_word w)
unfolding word_cells word_len
odd-word w h =
    odd_ones-low_bits 56 (w / 2 ^ 8) (omega arith) ∙ odd-read 28 (w / 2 ^ 8)
    ∙ ap (λ c. odd_ones (read_bits c)) (sym (drop-low_cells 8 56 w))

-- one more word
pub lawful-more : (xs : List ℕ) (i x k : ℕ) → i < length xs → is_lawful x ≡ true → is_lawful (get_or xs k 0) ≡ true
    → is_lawful (get_or (set xs i x) k 0) ≡ true
lawful-more xs i x k h e f = go (cases_eq k i)
  where
    go : (k ≡ i) ⊎ (k ≡ i → ⊥) → is_lawful (get_or (set xs i x) k 0) ≡ true
    go (inl q) = ap (λ k. is_lawful (get_or (set xs i x) k 0)) q ∙ ap is_lawful (get_or-set_same xs i x 0 h) ∙ e
    go (inr q) = ap is_lawful (get_or-set_other xs i k x 0 q) ∙ f

pub payload-more : (payload : ℕ → List Bool) (xs ys : List ℕ) (i x : ℕ) → i < length xs
    → payload_of x ≡ payload (get_or ys i 0)
    → ((k : ℕ) → k < i → payload_of (get_or xs k 0) ≡ payload (get_or ys k 0))
    → (k : ℕ) → k < i + 1 → payload_of (get_or (set xs i x) k 0) ≡ payload (get_or ys k 0)
payload-more payload xs ys i x h e f k g = go (cases_eq k i)
  where
    go : (k ≡ i) ⊎ (k ≡ i → ⊥) → payload_of (get_or (set xs i x) k 0) ≡ payload (get_or ys k 0)
    go (inl q) = ap (λ k. payload_of (get_or (set xs i x) k 0)) q ∙ ap payload_of (get_or-set_same xs i x 0 h) ∙ e
        ∙ ap (λ k. payload (get_or ys k 0)) (sym q)
    go (inr q) = ap payload_of (get_or-set_other xs i k x 0 q) ∙ f k (omega arith)

-- all of them
pub payloads-all : (payload : ℕ → List Bool) (xs ys : List ℕ) → length xs ≡ length ys
    → ((k : ℕ) → k < length xs → payload_of (get_or xs k 0) ≡ payload (get_or ys k 0))
    → map payload_of xs ≡ map payload ys
payloads-all payload xs ys l f =
    ext_get_or [] (map payload_of xs) (map payload ys) (length-map xs payload_of ∙ l ∙ sym (length-map ys payload))
    (λ k h. let n = length-map xs payload_of in
    get_or-map payload_of xs k 0 [] (omega arith) ∙ f k (omega arith)
    ∙ sym (get_or-map payload ys k 0 [] (omega arith)))

-- the payload that a word of cells carries
abbrev pub carried : ℕ → List Bool
carried w = take payload_len (read_word w)

pub carried-all : (xs ys : List ℕ) → length xs ≡ length ys
    → ((k : ℕ) → k < length xs → payload_of (get_or xs k 0) ≡ carried (get_or ys k 0))
    → map payload_of xs ≡ map (take payload_len) (read_words ys)
carried-all xs ys l f = payloads-all carried xs ys l f ∙ sym (map-map (take payload_len) read_word ys)

-- how many have odd ones
abbrev pub odd_count : List ℕ → ℕ
odd_count words = length (filter odd_ones (read_words words))
