-- The cells of subframes that were read, and of those with the same payload.
use Rattle.std.proofs.Common.{◌≡◌, ℕ, zero, suc, ◌*◌, ◌<◌, ◌^◌, ◌/◌, ◌%◌, List, [], ◌∷◌, Bool, true, false, length, map}
use Rattle.std.proofs.Common.{take, drop, refl, sym, ap, ap₂, ◌∙◌, arith, w64, length-drop, length-take-le}
use Rattle.std.specs.Int.{bit_at, bit_not}
use Rattle.std.specs.Prelude.{if◌then◌else◌}
use Rattle.std.proofs.lemmas.List.{drop-map, take_at}
use Rattle.std.proofs.lemmas.Nat.Bits.{bit_at-zero}
use Rattle.std.proofs.lemmas.Simd.{map-map}
use Rattle.aes3_level.specs.declared.level.Level.{Level}
use Rattle.aes3_level.specs.declared.level.Level.TheVariants.{Low, High}
use Rattle.aes3_level.specs.Cells.{line, other}
use Rattle.aes3_level.specs.Words.{level_of, low_cells, word_cells, word_len}
use Rattle.aes3_slot.specs.declared.mark.Mark.{Mark}
use Rattle.aes3_bits.specs.Bits.{odd_ones}
use Rattle.aes3_slot.specs.Slots.{payload_len, slots_len, slot_runs, subframe_runs, with_parity, IsPayload}
use Rattle.aes3_slot.specs.Reading.{differs, read_bits}
use Rattle.aes3_slot.specs.ReadWords.{read_word, read_words}
use Rattle.aes3_slot.specs.Fronts.{stands}
use Rattle.aes3_slot.specs.Rules.{at, before}
use Rattle.aes3_slot.specs.Turns.{turned}
use Rattle.aes3_slot.proofs.Parity.{last-slots, split-parity}
use Rattle.aes3_level.proofs.Runs.{other_ne}
use Rattle.aes3_level.proofs.WordCells.{low_cells-at}
use Rattle.aes3_slot.proofs.ReadSubframes.{length-word, word-read}
use Rattle.aes3_slot.proofs.Turns.{low_cells-not}
use Rattle.aes3_frame.proofs.SlotWords.{carried}
use Rattle.aes3_slot.proofs.WrongCells.{true-from_zero}

differs-other : (a b : Level) → differs (other a) (other b) ≡ differs a b
differs-other Low Low = refl
differs-other Low High = refl
differs-other High Low = refl
differs-other High High = refl

read-other : (c : List Level) → read_bits (map other c) ≡ read_bits c
read-other [] = refl
read-other (a ∷ []) = refl
read-other (a ∷ b ∷ c) = ap₂ (λ x y. x ∷ y) (differs-other a b) (read-other c)

-- inverted cells carry the same bits
pub read-not : (w : ℕ) → w < 2 ^ 64 → read_word (bit_not w64 w) ≡ read_word w
unfolding word_cells word_len
read-not w h =
    ap (λ c. read_bits (drop 8 c)) (low_cells-not 64 w (omega arith) h)
    ∙ ap read_bits (drop-map other 8 (word_cells w)) ∙ read-other (drop 8 (word_cells w))

-- 28 bits with even ones are a payload and its parity
even-parts : (bits : List Bool) → length bits ≡ 28 → odd_ones bits ≡ false → bits ≡ with_parity (take 27 bits)
even-parts bits l e =
    let p = split-parity 27 bits l e in
    let t : take 27 bits ≡ p.0 = ap (take 27) p.2 ∙ take_at p.0 (odd_ones p.0 ∷ []) 27 p.1 in
    p.2 ∙ ap with_parity (sym t)

read_bits-length : (n : ℕ) (c : List Level) → length c ≡ 2 * n → length (read_bits c) ≡ n
read_bits-length zero [] h = refl
read_bits-length zero (a ∷ c) h = absurd (omega arith)
read_bits-length (suc n) [] h = absurd (omega arith)
read_bits-length (suc n) (a ∷ []) h = absurd (omega arith)
read_bits-length (suc n) (a ∷ b ∷ c) h = ap suc (read_bits-length n c (omega arith))

read-length : (w : ℕ) → length (read_word w) ≡ 28
read-length w =
    let l = length-word w in
    let m = length-drop 8 (word_cells w) in
    read_bits-length 28 (drop 8 (word_cells w)) (omega (arith, l, m))

-- cells that stand as they may and whose parity is right are the subframe of their payload
pub right-subframe : (s : Level) (m : Mark) (w : ℕ) → ((i : ℕ) → i < 64 → stands s m (word_cells w) i ≡ true)
    → odd_ones (read_word w) ≡ false → word_cells w ≡ line s (subframe_runs m (take payload_len (read_word w)))
unfolding payload_len
right-subframe s m w h o =
    word-read s m w h ∙ ap (λ bits. line s (slot_runs m bits)) (even-parts (read_word w) (read-length w) o)

-- as the word of the cells that don't says
pub none-wrong : (s : Level) (m : Mark) (w wrong : ℕ) → wrong ≡ 0
    → ((i : ℕ) → i < 64 → bit_at wrong i ≡ (if stands s m (word_cells w) i then 0 else 1))
    → (i : ℕ) → i < 64 → stands s m (word_cells w) i ≡ true
none-wrong s m w wrong z says i h = true-from_zero (stands s m (word_cells w) i) (sym (says i h)
    ∙ ap (λ x. bit_at x i) z ∙ bit_at-zero i)

-- the payload of a word
pub carried-payload : (w : ℕ) → IsPayload (carried w)
unfolding payload_len
carried-payload w = length-take-le 27 (read_word w) (let l = read-length w in omega (arith, l))

pub payloads-carried : (words : List ℕ) → map carried words ≡ map (take payload_len) (read_words words)
payloads-carried words = sym (map-map (take payload_len) read_word words)

-- the last cell of a word
pub last-of : (word b : ℕ) → word / 2 ^ 63 % 2 ≡ b → at (low_cells 64 word) 63 ≡ level_of b
last-of word b h = low_cells-at 64 word 63 (omega arith) ∙ ap level_of h

-- the last cell of a subframe has the level before it again where its parity is right
pub even-by-last : (s : Level) (m : Mark) (w : ℕ) → ((i : ℕ) → i < 64 → stands s m (word_cells w) i ≡ true)
    → at (word_cells w) 63 ≡ s → odd_ones (read_word w) ≡ false
unfolding slots_len
even-by-last s m w h e =
    go (odd_ones (read_word w)) (sym (last-slots s m (read_word w) (read-length w))
    ∙ sym (ap (λ c. before s c 64) (word-read s m w h)) ∙ e)
  where
    go : (b : Bool) → turned b s ≡ s → b ≡ false
    go false q = refl
    go true q = absurd (other_ne s q)
