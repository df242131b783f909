-- Block files and the words that they are made of.
use Rattle.std.proofs.Common.{◌≡◌, ℕ, suc, ◌+◌, ◌*◌, ◌/◌, ◌%◌, ◌^◌, ◌<◌, ◌≤◌, List, [], ◌∷◌, ◌++◌, Bool, true, eqb-true}
use Rattle.std.proofs.Common.{length, map, take, get_or, refl, sym, ap, ap₂, ◌∙◌, arith, append-nil, w32}
use Rattle.std.specs.List.{flat_map}
use Rattle.std.specs.Int.{to_le_bytes}
use borrow.Rule.Slice.PartMut.{put_mid}
use Rattle.std.proofs.lemmas.Bool.{and_parts}
use Rattle.std.proofs.lemmas.Grind.{flat_map-append}
use Rattle.std.proofs.lemmas.List.{take_more}
use Rattle.std.proofs.lemmas.Slice.{take-put_mid}
use Rattle.aes3_bits.specs.Bits.{number}
use Rattle.aes3_slot.specs.Slots.{slots_len, slots_bits}
use Rattle.aes3_bits.proofs.Bits.{number-low_bits}
use Rattle.aes3_frame.specs.Files.{word_of, word_bytes, block_bytes, has_code, has_parity, is_lawful, payload_of}
use Rattle.aes3_frame.proofs.BitLemmas.{lawful-slots}

-- the library's bytes of a word are ours
pub le_bytes-is : (w : ℕ) → w < 2 ^ 32 → to_le_bytes w32 w ≡ word_bytes w
le_bytes-is w h =
    let two : w / 65536 % 256 ≡ w / 256 / 256 % 256 = omega arith in
    let three : w / 16777216 % 256 ≡ w / 256 / 256 / 256 % 256 = omega arith in
    ap₂ (λ x y. w % 256 ∷ w / 256 % 256 ∷ x ∷ y ∷ []) two three

-- a lawful word is the word of its payload
pub word_of-lawful : (w : ℕ) → w < 2 ^ 32 → is_lawful w ≡ true → word_of (payload_of w) ≡ w
unfolding slots_len
word_of-lawful w l h =
    let p = and_parts (has_code w) (has_parity w) h in
    let c : w % 16 ≡ 0 = eqb-true (w % 16) 0 p.0 in
    let n : number (slots_bits (w / 16)) ≡ w / 16 = number-low_bits 28 (w / 16) (omega arith) in
    ap (λ bits. 16 * number bits) (sym (lawful-slots w p.1)) ∙ ap (λ k. 16 * k) n ∙ omega arith

-- the words of the payloads of lawful words
pub words-of-payloads : (words : List ℕ) → ((i : ℕ) → i < length words → get_or words i 0 < 2 ^ 32)
    → ((i : ℕ) → i < length words → is_lawful (get_or words i 0) ≡ true) → map word_of (map payload_of words) ≡ words
words-of-payloads [] l h = refl
words-of-payloads (w ∷ words) l h =
    ap₂ (λ x xs. x ∷ xs) (word_of-lawful w (l 0 (omega arith)) (h 0 (omega arith)))
    (words-of-payloads words (λ i g. l (suc i) (omega arith)) (λ i g. h (suc i) (omega arith)))

pub bytes-of-payloads : (words : List ℕ) (b : List (List Bool)) → map payload_of words ≡ b
    → ((i : ℕ) → i < length words → get_or words i 0 < 2 ^ 32)
    → ((i : ℕ) → i < length words → is_lawful (get_or words i 0) ≡ true) → flat_map word_bytes words ≡ block_bytes b
unfolding block_bytes
bytes-of-payloads words b e l h =
    sym (ap (flat_map word_bytes) (ap (map word_of) (sym e) ∙ words-of-payloads words l h))

-- the bytes so far, with those of one more word
pub bytes-word : (words bytes ys : List ℕ) (i k : ℕ) → i < length words → get_or words i 0 < 2 ^ 32
    → 4 * i ≤ length bytes → take (4 * i) bytes ≡ flat_map word_bytes (take i words)
    → ys ≡ to_le_bytes w32 (get_or words i 0)
    → take (4 * (i + 1)) (put_mid (4 * i) k bytes ys) ≡ flat_map word_bytes (take (i + 1) words)
bytes-word words bytes ys i k h fits lb e q =
    let w = get_or words i 0 in
    let y : ys ≡ word_bytes w = q ∙ le_bytes-is w fits in
    let n : 4 * (i + 1) ≡ 4 * i + length ys = let l : length ys ≡ 4 = ap length y in omega arith in
    take-put_mid (4 * i) k bytes ys (4 * (i + 1)) n lb ∙ ap₂ ◌++◌ e (y ∙ sym (append-nil (word_bytes w)))
    ∙ sym (flat_map-append word_bytes (take i words) (w ∷ [])) ∙ ap (flat_map word_bytes) (sym (take_more words i 0 h))
