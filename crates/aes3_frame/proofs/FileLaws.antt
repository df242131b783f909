-- The file of blocks is read back as these blocks.
use Rattle.std.proofs.Common.{◌≡◌, ℕ, suc, ◌*◌, ◌/◌, ◌%◌, ◌^◌, ◌<◌, List, [], ◌∷◌, ◌++◌, Bool, true, false, not, ◌&&◌}
use Rattle.std.proofs.Common.{length, map, refl, sym, ap, ap₂, ◌∙◌, subst, arith, append_assoc, length-append, eq-eqb}
use Rattle.std.specs.List.{flat_map, All}
use Rattle.std.proofs.lemmas.List.{length-map, take_at, drop_at}
use Rattle.aes3_bits.specs.Bits.{low_bits, number, odd_ones}
use Rattle.aes3_slot.specs.Slots.{IsPayload, payload_bits, slots_len, slots_bits, with_parity}
use Rattle.aes3_bits.proofs.Bits.{number-lt, low_bits-number}
use Rattle.aes3_slot.proofs.Subframes.{odd_ones-with_parity, length-with_parity}
use Rattle.aes3_frame.specs.Blocks.{block_subframes, IsBlock}
use Rattle.aes3_frame.specs.Files.{word_of, word_bytes, words_of, block_bytes, file, has_code, is_lawful, payload_of}
use Rattle.aes3_frame.specs.Files.{blocks_in, file_blocks, IsBlockFile}
use Rattle.aes3_frame.proofs.BlockLemmas.{slots-whole, bytes-whole}
use Rattle.aes3_frame.proofs.BitLemmas.{payload-slots}
use Rattle.aes3_frame.proofs.Bytes.{bytes_number-low_bytes}
use Rattle.aes3_frame.proofs.Runs.{Each27}
use Rattle.aes3_frame.proofs.Words.{all_lawful, lawful-words}
use Rattle.aes3_frame.proofs.Each.{each-payload}

-- the word of a payload
slots-number : (p : List Bool) → IsPayload p → (number (with_parity p) < 2 ^ 28)
    × (slots_bits (number (with_parity p)) ≡ with_parity p)
unfolding slots_len
slots-number p h =
    let n : length (with_parity p) ≡ 28 = length-with_parity p h in (
      subst (λ (k : ℕ). number (with_parity p) < 2 ^ k) n (number-lt (with_parity p)),
      ap (λ k. low_bits k (number (with_parity p))) (sym n) ∙ low_bits-number (with_parity p),
    )

word-slots : (p : List Bool) → word_of p / 16 ≡ number (with_parity p)
word-slots p = omega arith

pub lawful-word : (p : List Bool) → IsPayload p → is_lawful (word_of p) ≡ true
lawful-word p h =
    let c : has_code (word_of p) ≡ true = eq-eqb (word_of p % 16) 0 (omega arith) in
    let o : odd_ones (slots_bits (word_of p / 16)) ≡ false = ap (λ k. odd_ones (slots_bits k)) (word-slots p)
    ∙ ap odd_ones (slots-number p h).1 ∙ odd_ones-with_parity p in
    ap₂ ◌&&◌ c (ap not o)

pub payload-word : (p : List Bool) → IsPayload p → payload_of (word_of p) ≡ p
payload-word p h = ap payload_bits (word-slots p) ∙ payload-slots (number (with_parity p)) p (slots-number p h).1 h

-- the words of a block's file
pub words-of-word : (w : ℕ) (rest : List ℕ) → w < 2 ^ 32 → words_of (word_bytes w ++ rest) ≡ w ∷ words_of rest
words-of-word w rest h = ap (λ v. v ∷ words_of rest) (bytes_number-low_bytes w h)

words-of-payloads : (ps : List (List Bool)) (rest : List ℕ) → Each27 ps
    → words_of (flat_map word_bytes (map word_of ps) ++ rest) ≡ map word_of ps ++ words_of rest
words-of-payloads [] rest h = refl
words-of-payloads (p ∷ ps) rest h =
    let l = (slots-number p h.0).0 in
    ap words_of (append_assoc (word_bytes (word_of p)) (flat_map word_bytes (map word_of ps)) rest)
    ∙ words-of-word (word_of p) (flat_map word_bytes (map word_of ps) ++ rest) (omega arith)
    ∙ ap (λ ws. word_of p ∷ ws) (words-of-payloads ps rest h.1)

-- the facts of each block
abbrev pub EachBlock : List (List (List Bool)) → Type 0
EachBlock [] = Unit {0}
EachBlock (b ∷ bs) = IsBlock b × EachBlock bs

pub each-block : (bs : List (List (List Bool))) → All IsBlock bs → EachBlock bs
each-block [] h = tt
each-block (b ∷ bs) h = (h 0 [] (omega arith), each-block bs (λ k d lt. h (suc k) d (omega arith)))

pub words-of-file : (bs : List (List (List Bool))) → EachBlock bs → words_of (file bs) ≡ flat_map (map word_of) bs
unfolding block_bytes
words-of-file [] h = refl
words-of-file (b ∷ bs) h = words-of-payloads b (file bs) (each-payload b h.0.payloads)
    ∙ ap (λ ws. map word_of b ++ ws) (words-of-file bs h.1)

lawful-append : (ws vs : List ℕ) → all_lawful ws ≡ true → all_lawful vs ≡ true → all_lawful (ws ++ vs) ≡ true
lawful-append [] vs h g = g
lawful-append (w ∷ ws) vs h g = go (is_lawful w) h (λ k. lawful-append ws vs k g)
  where
    go : (b : Bool) → (b && all_lawful ws) ≡ true → (all_lawful ws ≡ true → all_lawful (ws ++ vs) ≡ true)
        → (b && all_lawful (ws ++ vs)) ≡ true
    go true e next = next e
    go false e next = cc

lawful-payloads : (ps : List (List Bool)) → Each27 ps → all_lawful (map word_of ps) ≡ true
lawful-payloads [] h = refl
lawful-payloads (p ∷ ps) h = ap₂ ◌&&◌ (lawful-word p h.0) (lawful-payloads ps h.1)

pub lawful-file : (bs : List (List (List Bool))) → EachBlock bs → all_lawful (flat_map (map word_of) bs) ≡ true
lawful-file [] h = refl
lawful-file (b ∷ bs) h = lawful-append (map word_of b) (flat_map (map word_of) bs)
    (lawful-payloads b (each-payload b h.0.payloads)) (lawful-file bs h.1)

-- how many words and bytes
count-words : (bs : List (List (List Bool))) → EachBlock bs
    → length (flat_map (map word_of) bs) ≡ block_subframes * length bs
count-words [] h = omega arith
count-words (b ∷ bs) h =
    let l = length-append (map word_of b) (flat_map (map word_of) bs) in
    let m = length-map b word_of in
    let c = h.0.count in
    let n = count-words bs h.1 in
    omega arith

pub length-bytes : (ws : List ℕ) → length (flat_map word_bytes ws) ≡ 4 * length ws
length-bytes [] = refl
length-bytes (w ∷ ws) = let e = length-append (word_bytes w) (flat_map word_bytes ws) in
    let i = length-bytes ws in omega arith

pub length-file : (bs : List (List (List Bool))) → EachBlock bs → length (file bs) ≡ 4 * (block_subframes * length bs)
unfolding block_bytes
length-file [] h = omega arith
length-file (b ∷ bs) h =
    let l = length-append (flat_map word_bytes (map word_of b)) (file bs) in
    let k = length-bytes (map word_of b) in
    let m = length-map b word_of in
    let c = h.0.count in
    let n = length-file bs h.1 in
    omega arith

-- the blocks of these words
payloads-back : (ps : List (List Bool)) → Each27 ps → map payload_of (map word_of ps) ≡ ps
payloads-back [] h = refl
payloads-back (p ∷ ps) h = ap₂ (λ x xs. x ∷ xs) (payload-word p h.0) (payloads-back ps h.1)

blocks-of-words : (bs : List (List (List Bool))) → EachBlock bs → blocks_in (length bs) (flat_map (map word_of) bs) ≡ bs
blocks-of-words [] h = refl
blocks-of-words (b ∷ bs) h =
    let n : length (map word_of b) ≡ block_subframes = length-map b word_of ∙ h.0.count in
    ap₂ (λ x y. map payload_of x ∷ y) (take_at (map word_of b) (flat_map (map word_of) bs) block_subframes n)
    (ap (blocks_in (length bs)) (drop_at (map word_of b) (flat_map (map word_of) bs) block_subframes n)
    ∙ blocks-of-words bs h.1)
    ∙ ap (λ x. x ∷ bs) (payloads-back b (each-payload b h.0.payloads))

pub file_blocks-file : (bs : List (List (List Bool))) → All IsBlock bs → file_blocks (file bs) ≡ bs
unfolding file_blocks
file_blocks-file bs h =
    let e = each-block bs h in
    let w = words-of-file bs e in
    let l = lawful-words (file bs) (ap all_lawful w ∙ lawful-file bs e) ∙ w in
    let c : length (flat_map (map word_of) bs) / block_subframes ≡ length bs = ap (λ k. k / block_subframes) (count-words bs e)
    ∙ slots-whole (length bs) in
    ap (λ ws. blocks_in (length ws / block_subframes) ws) l ∙ ap (λ k. blocks_in k (flat_map (map word_of) bs)) c
    ∙ blocks-of-words bs e

pub is_block_file-file : (bs : List (List (List Bool))) → All IsBlock bs → IsBlockFile (file bs)
is_block_file-file bs h =
    let e = each-block bs h in
    let w = words-of-file bs e in
    record {
      whole = ap (λ k. k % (4 * block_subframes)) (length-file bs e) ∙ bytes-whole (length bs);
      lawful = lawful-words (file bs) (ap all_lawful w ∙ lawful-file bs e);
    }
