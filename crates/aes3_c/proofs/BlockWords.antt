-- Words of blocks, read of octets in a form.
use Rattle.std.proofs.Common.{◌≡◌, ℕ, suc, ◌+◌, ◌*◌, ◌%◌, ◌^◌, ◌<◌, ◌≤◌, List, [], ◌∷◌, ◌++◌, length, take, drop, get_or}
use Rattle.std.proofs.Common.{set, refl, sym, ap, ap₂, ◌∙◌, arith, append-nil, take-append-drop}
use Rattle.std.specs.List.{flat_map}
use Rattle.std.proofs.lemmas.Grind.{flat_map-append}
use Rattle.std.proofs.lemmas.List.{drop_more, get_or-append-add, get_or_append_left, length-drop, length-take-le, take_more_set}
use Rattle.std.proofs.lemmas.Slice.{take-put_mid}
use Rattle.std.proofs.Math.Seq.{take-add}
use borrow.Rule.Slice.PartMut.{put_mid}
use Rattle.aes3_forms_words.specs.declared.alsa_am824.Words.{Words}
use Rattle.aes3_forms_words.specs.Forms.{own_word}
use Rattle.aes3_forms_words.specs.Lists.{each_word}
use Rattle.aes3_forms_words.proofs.EachWord.{each-append, length-each}
use Rattle.aes3_forms_words.proofs.OneWord.{own-fours}
use Rattle.aes3_frame.specs.Files.{word_bytes, words_of}
use Rattle.aes3_frame.proofs.FileLaws.{words-of-word}
use Rattle.aes3_frame.proofs.SampleBlocks.{words-join}
use Rattle.aes3_frame.proofs.Words.{length-words}
use Rattle.aes3_c.specs.Blocks.{piece_at, word_read}
use Rattle.aes3_block.proofs.BlockReads.{words-again}

-- what is read of a block's octets
pub read-is : (form w : Words) (own octets : List ℕ) (i n : ℕ)
    → flat_map word_bytes own ≡ each_word (own_word w) 0 (take n (drop (1536 * i) octets)) → w ≡ form → n ≡ 1536
    → flat_map word_bytes own ≡ each_word (own_word form) 0 (piece_at 1536 i octets)
read-is form w own octets i n e f m = e ∙ ap₂ (λ v k. each_word (own_word v) 0 (take k (drop (1536 * i) octets))) f m

-- four octets one by one
pub four-at : (xs : List ℕ) (k : ℕ) → k + 4 ≤ length xs
    → get_or xs k 0 ∷ get_or xs (k + 1) 0 ∷ get_or xs (k + 2) 0 ∷ get_or xs (k + 3) 0 ∷ [] ≡ take 4 (drop k xs)
four-at xs k h =
    let one = drop_more xs k 0 (omega (arith, h)) in
    let two = drop_more xs (k + 1) 0 (omega (arith, h)) in
    let three = drop_more xs (k + 1 + 1) 0 (omega (arith, h)) in
    let four = drop_more xs (k + 1 + 1 + 1) 0 (omega (arith, h)) in
    ap₂ (λ m n. get_or xs k 0 ∷ get_or xs (k + 1) 0 ∷ get_or xs m 0 ∷ get_or xs n 0 ∷ [])
    (let e : k + 2 ≡ k + 1 + 1 = omega arith in e) (let e : k + 3 ≡ k + 1 + 1 + 1 = omega arith in e)
    ∙ sym (ap (take 4) (one ∙ ap (λ t. get_or xs k 0 ∷ t) (two ∙ ap (λ t. get_or xs (k + 1) 0 ∷ t)
    (three ∙ ap (λ t. get_or xs (k + 1 + 1) 0 ∷ t) four))))

-- one word more
pub own-more : (form : Words) (words xs : List ℕ) (i w : ℕ) → i < length words → i < 384 → 4 * i + 4 ≤ length xs
    → flat_map word_bytes (take i words) ≡ each_word (own_word form) 0 (take (4 * i) xs)
    → word_bytes w ≡ each_word (own_word form) i (take 4 (drop (4 * i) xs))
    → flat_map word_bytes (take (i + 1) (set words i w)) ≡ each_word (own_word form) 0 (take (4 * (i + 1)) xs)
own-more form words xs i w h few room before new =
    let f = own_word form in
    let four = take 4 (drop (4 * i) xs) in
    let size = length-take-le (4 * i) xs (omega (arith, room)) in
    ap (flat_map word_bytes) (take_more_set words i w h)
    ∙ flat_map-append word_bytes (take i words) (w ∷ [])
    ∙ ap₂ ◌++◌ before (append-nil (word_bytes w) ∙ new ∙ ap (λ p. each_word f p four) (let e : i ≡ (0 + i) % 384 = omega (arith, few) in e))
    ∙ sym (each-append f 0 i (take (4 * i) xs) four (omega arith) size)
    ∙ ap (each_word f 0) (sym (take-add (4 * i) 4 xs) ∙ ap (λ n. take n xs) (let e : 4 * i + 4 ≡ 4 * (i + 1) = omega arith in e))

-- one block more
pub blocks-own : (form : Words) (words own xs : List ℕ) (i k : ℕ) → length own ≡ 384 → 384 * i ≤ length words
    → 1536 * i + 1536 ≤ length xs
    → flat_map word_bytes (take (384 * i) words) ≡ each_word (own_word form) 0 (take (1536 * i) xs)
    → flat_map word_bytes own ≡ each_word (own_word form) 0 (piece_at 1536 i xs)
    → flat_map word_bytes (take (384 * (i + 1)) (put_mid (384 * i) k words own))
    ≡ each_word (own_word form) 0 (take (1536 * (i + 1)) xs)
blocks-own form words own xs i k n l room before new =
    let f = own_word form in
    let size = length-take-le (1536 * i) xs (omega (arith, room)) in
    ap (flat_map word_bytes) (take-put_mid (384 * i) k words own (384 * (i + 1)) (omega (arith, n)) l)
    ∙ flat_map-append word_bytes (take (384 * i) words) own
    ∙ ap₂ ◌++◌ before (new ∙ ap (λ p. each_word f p (piece_at 1536 i xs)) (let e : 0 ≡ (0 + 384 * i) % 384 = omega arith in e))
    ∙ sym (each-append f 0 (384 * i) (take (1536 * i) xs) (piece_at 1536 i xs) (omega arith) (omega (arith, size)))
    ∙ ap (each_word f 0) (sym (take-add (1536 * i) 1536 xs) ∙ ap (λ m. take m xs) (let e : 1536 * i + 1536 ≡ 1536 * (i + 1) = omega arith in e))

-- a word of a block is that of all octets
pub word-of-own : (form : Words) (own xs : List ℕ) (i : ℕ) → length own ≡ 384 → ((j : ℕ) → j < 384 → get_or own j 0 < 2 ^ 32)
    → 1536 * i + 1536 ≤ length xs
    → flat_map word_bytes own ≡ each_word (own_word form) 0 (piece_at 1536 i xs)
    → (k : ℕ) → k < 384 → get_or own k 0 ≡ word_read form xs (384 * i + k)
word-of-own form own xs i n fits room is k few =
    let f = own_word form in
    let a = take (1536 * i) xs in
    let p = piece_at 1536 i xs in
    let r = drop 1536 (drop (1536 * i) xs) in
    let la : length a ≡ 4 * (384 * i) = length-take-le (1536 * i) xs (omega (arith, room)) ∙ omega arith in
    let ld = length-drop (1536 * i) xs in
    let lp : length p ≡ 4 * 384 = length-take-le 1536 (drop (1536 * i) xs) (omega (arith, ld, room)) in
    let ea = length-each f (own-fours form) 0 a in
    let ep = length-each f (own-fours form) 0 p in
    let parts : xs ≡ a ++ (p ++ r)
    = sym (take-append-drop (1536 * i) xs) ∙ ap (λ t. a ++ t) (sym (take-append-drop 1536 (drop (1536 * i) xs))) in
    let read : each_word f 0 xs ≡ each_word f 0 a ++ (each_word f 0 p ++ each_word f 0 r)
    = ap (each_word f 0) parts
    ∙ each-append f 0 (384 * i) a (p ++ r) (omega arith) la
    ∙ ap (λ q. each_word f 0 a ++ each_word f q (p ++ r)) (let e : (0 + 384 * i) % 384 ≡ 0 = omega arith in e)
    ∙ ap (λ t. each_word f 0 a ++ t) (each-append f 0 384 p r (omega arith) lp) in
    let words : words_of (each_word f 0 xs) ≡ words_of (each_word f 0 a) ++ (own ++ words_of (each_word f 0 r))
    = ap words_of read
    ∙ words-join (each_word f 0 a) (each_word f 0 p ++ each_word f 0 r) (omega (arith, ea, la))
    ∙ ap (λ t. words_of (each_word f 0 a) ++ t)
    (words-join (each_word f 0 p) (each_word f 0 r) (omega (arith, ep, lp))
    ∙ ap (λ t. t ++ words_of (each_word f 0 r)) (ap words_of (sym is) ∙ words-again own (λ j l. fits j (omega (arith, n, l))))) in
    let front : length (words_of (each_word f 0 a)) ≡ 384 * i = length-words (each_word f 0 a) ∙ omega (arith, ea, la) in
    sym (ap (λ t. get_or t (384 * i + k) 0) words
    ∙ ap (λ m. get_or (words_of (each_word f 0 a) ++ (own ++ words_of (each_word f 0 r))) (m + k) 0) (sym front)
    ∙ get_or-append-add (words_of (each_word f 0 a)) (own ++ words_of (each_word f 0 r)) k 0
    ∙ get_or_append_left own (words_of (each_word f 0 r)) 0 k (omega (arith, n, few)))
