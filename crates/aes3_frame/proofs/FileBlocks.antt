-- A block file is the file of the blocks that are read from it.
use Rattle.std.proofs.Common.{◌≡◌, ℕ, zero, suc, ◌+◌, ◌*◌, ◌/◌, ◌%◌, ◌^◌, ◌<◌, ◌≤◌, List, [], ◌∷◌, ◌++◌, true, length}
use Rattle.std.proofs.Common.{map, take, drop, get_or, refl, sym, ap, ap₂, ◌∙◌, arith}
use Rattle.std.specs.List.{flat_map, All}
use Rattle.std.proofs.lemmas.Grind.{flat_map-append}
use Rattle.std.proofs.lemmas.Bool.{and_parts}
use Rattle.std.proofs.lemmas.List.{length-map, length-take-le, length-drop, take-append-drop, get_or-take, get_or-drop}
use Rattle.aes3_frame.specs.Blocks.{IsBlock, block_subframes}
use Rattle.aes3_frame.specs.Files.{bytes_number, word_bytes, words_of, file, is_lawful, payload_of, blocks_in}
use Rattle.aes3_frame.specs.Files.{lawful_words, file_blocks, IsBlockFile}
use Rattle.aes3_frame.proofs.BlockLemmas.{block_subframes_384}
use Rattle.aes3_frame.proofs.Each.{all-nil, all-cons, all-payloads, EachByte, each-byte}
use Rattle.aes3_frame.proofs.Files.{bytes-of-payloads}
use Rattle.aes3_frame.proofs.Runs.{each27-payloads}
use Rattle.aes3_frame.proofs.Words.{length-words, all_lawful, all_lawful-from}
use Rattle.aes3_frame.proofs.BlockLemmas.{count-within}

-- the words of bytes, and their bytes
word-back : (a b c d : ℕ) → a < 256 → b < 256 → c < 256 → d < 256
    → word_bytes (bytes_number (a ∷ b ∷ c ∷ d ∷ [])) ≡ a ∷ b ∷ c ∷ d ∷ []
word-back a b c d k l m n =
    let w = bytes_number (a ∷ b ∷ c ∷ d ∷ []) in
    let e : bytes_number (a ∷ b ∷ c ∷ d ∷ []) % 256 ≡ a = omega arith in
    let f : bytes_number (a ∷ b ∷ c ∷ d ∷ []) / 256 % 256 ≡ b = omega arith in
    let g : bytes_number (a ∷ b ∷ c ∷ d ∷ []) / 256 / 256 % 256 ≡ c = omega arith in
    let h : bytes_number (a ∷ b ∷ c ∷ d ∷ []) / 256 / 256 / 256 % 256 ≡ d = omega arith in
    ap₂ (λ x y. x ∷ y) e (ap₂ (λ x y. x ∷ y) f (ap₂ (λ x y. x ∷ y ∷ []) g h))

bytes-back : (bytes : List ℕ) → length bytes % 4 ≡ 0 → EachByte bytes → flat_map word_bytes (words_of bytes) ≡ bytes
bytes-back [] l h = refl
bytes-back (a ∷ []) l h = absurd (omega arith)
bytes-back (a ∷ b ∷ []) l h = absurd (omega arith)
bytes-back (a ∷ b ∷ c ∷ []) l h = absurd (omega arith)
bytes-back (a ∷ b ∷ c ∷ d ∷ rest) l h =
    ap₂ ◌++◌ (word-back a b c d h.0 h.1.0 h.1.1.0 h.1.1.1.0) (bytes-back rest (omega arith) h.1.1.1.1)

word-fits : (bytes : List ℕ) (i : ℕ) → EachByte bytes → i < length (words_of bytes)
    → get_or (words_of bytes) i 0 < 2 ^ 32
word-fits [] i h l = absurd (omega arith)
word-fits (a ∷ []) i h l = absurd (omega arith)
word-fits (a ∷ b ∷ []) i h l = absurd (omega arith)
word-fits (a ∷ b ∷ c ∷ []) i h l = absurd (omega arith)
word-fits (a ∷ b ∷ c ∷ d ∷ rest) zero h l = number (h.0) (h.1.0) (h.1.1.0) (h.1.1.1.0)
  where
    number : a < 256 → b < 256 → c < 256 → d < 256 → bytes_number (a ∷ b ∷ c ∷ d ∷ []) < 2 ^ 32
    number k l m n = omega arith
word-fits (a ∷ b ∷ c ∷ d ∷ rest) (suc i) h l = word-fits rest i h.1.1.1.1 (omega arith)

lawful-at : (ws : List ℕ) (i : ℕ) → all_lawful ws ≡ true → i < length ws → is_lawful (get_or ws i 0) ≡ true
lawful-at [] i h l = absurd (omega arith)
lawful-at (w ∷ ws) zero h l = (and_parts (is_lawful w) (all_lawful ws) h).0
lawful-at (w ∷ ws) (suc i) h l = lawful-at ws i (and_parts (is_lawful w) (all_lawful ws) h).1 (omega arith)

-- the bytes of the blocks of words
blocks-back : (n : ℕ) (ws : List ℕ) → length ws ≡ block_subframes * n → ((i : ℕ) → i < length ws → get_or ws i 0 < 2 ^ 32)
    → ((i : ℕ) → i < length ws → is_lawful (get_or ws i 0) ≡ true) → file (blocks_in n ws) ≡ flat_map word_bytes ws
blocks-back zero [] l f h = refl
blocks-back zero (w ∷ ws) l f h = absurd (omega arith)
blocks-back (suc n) ws l f h =
    let one = take block_subframes ws in
    let rest = drop block_subframes ws in
    let k : length (take block_subframes ws) ≡ block_subframes = length-take-le block_subframes ws (omega arith) in
    let m = length-drop block_subframes ws in
    ap₂ ◌++◌
    (sym (bytes-of-payloads one (map payload_of (take block_subframes ws)) refl
    (λ i lt. rw (get_or-take block_subframes ws i 0 (omega arith)) (f i (omega arith)))
    (λ i lt. rw (get_or-take block_subframes ws i 0 (omega arith)) (h i (omega arith)))))
    (blocks-back n rest (omega arith)
    (λ i lt. rw (get_or-drop block_subframes ws i 0) (f (block_subframes + i) (omega arith)))
    (λ i lt. rw (get_or-drop block_subframes ws i 0) (h (block_subframes + i) (omega arith))))
    ∙ sym (flat_map-append word_bytes one rest) ∙ ap (flat_map word_bytes) (take-append-drop block_subframes ws)

-- they are blocks
blocks-blocks : (n : ℕ) (ws : List ℕ) → block_subframes * n ≤ length ws → All IsBlock (blocks_in n ws)
blocks-blocks zero ws l = all-nil IsBlock
blocks-blocks (suc n) ws l =
    let one = take block_subframes ws in
    let m = length-drop block_subframes ws in
    all-cons IsBlock (map payload_of one) (blocks_in n (drop block_subframes ws))
    record {
      count = length-map one payload_of ∙ length-take-le block_subframes ws (omega arith);
      payloads = all-payloads (map payload_of one) (each27-payloads one);
    }
    (blocks-blocks n (drop block_subframes ws) (omega arith))

pub file_blocks-blocks : (bytes : List ℕ) → All IsBlock (file_blocks bytes)
unfolding file_blocks
file_blocks-blocks bytes = blocks-blocks (length (lawful_words bytes) / block_subframes) (lawful_words bytes)
    (count-within (length (lawful_words bytes)))

pub file-file_blocks : (bytes : List ℕ) → All (λ x. x < 256) bytes → IsBlockFile bytes
    → file (file_blocks bytes) ≡ bytes
unfolding file_blocks
file-file_blocks bytes e h =
    let b = each-byte bytes e in
    let k = block_subframes_384 in
    let w = h.whole in
    let z = length-words bytes in
    let q = all_lawful-from bytes h.lawful in
    let n : length (words_of bytes) ≡ block_subframes * (length (words_of bytes) / block_subframes) =
    even (length bytes) (length (words_of bytes)) w z in
    let f : length bytes % 4 ≡ 0 = four (length bytes) w in
    ap (λ ws. file (blocks_in (length ws / block_subframes) ws)) h.lawful
    ∙ blocks-back (length (words_of bytes) / block_subframes) (words_of bytes) n (λ i lt. word-fits bytes i b lt)
    (λ i lt. lawful-at (words_of bytes) i q lt)
    ∙ bytes-back bytes f b
  where
    even : (m n : ℕ) → m % (4 * block_subframes) ≡ 0 → n ≡ m / 4 → n ≡ block_subframes * (n / block_subframes)
    even m n e f = go block_subframes block_subframes_384 e
      where
        go : (s : ℕ) → s ≡ 384 → m % (4 * s) ≡ 0 → n ≡ s * (n / s)
        go s q e = let x : m % (4 * 384) ≡ 0 = ap (λ t. m % (4 * t)) (sym q) ∙ e in rw q (omega arith)

    four : (m : ℕ) → m % (4 * block_subframes) ≡ 0 → m % 4 ≡ 0
    four m e = let x : m % (4 * 384) ≡ 0 = ap (λ t. m % (4 * t)) (sym block_subframes_384) ∙ e in omega arith
