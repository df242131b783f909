-- Blocks made of samples, their bytes and their samples.
use Rattle.std.proofs.Common.{◌≡◌, ℕ, zero, suc, ◌+◌, ◌-◌, ◌*◌, ◌/◌, ◌%◌, ◌^◌, ◌<◌, ◌≤◌, List, [], ◌∷◌, ◌++◌, Bool}
use Rattle.std.proofs.Common.{false, length, map, take, drop, replicate, get_or, refl, sym, ap, ap₂, ◌∙◌, arith}
use Rattle.std.proofs.Common.{length-append, length-drop}
use Rattle.std.specs.List.{flat_map, All}
use Rattle.std.proofs.lemmas.Grind.{flat_map-append}
use Rattle.std.proofs.lemmas.List.{length-map, length-replicate, length-take-le, take_at, take-append-le}
use Rattle.std.proofs.lemmas.List.{drop-append-le, take-append-drop, take-set-le, nil_from_length, take_all}
use Rattle.aes3_bits.specs.Bits.{low_bits, number}
use Rattle.aes3_slot.specs.Slots.{payload_len, payload_bits}
use Rattle.aes3_bits.proofs.Bits.{low_bits-add, length-low_bits, number-low_bits}
use Rattle.aes3_frame.specs.declared.block.Channel.{Channel}
use Rattle.aes3_frame.specs.declared.block.Channel.TheVariants.{First, Second}
use Rattle.aes3_frame.specs.Blocks.{block_subframes, IsBlock}
use Rattle.aes3_frame.specs.Files.{bytes_number, words_of, word_bytes}
use Rattle.aes3_frame.specs.Samples.{sample_of, block_samples, samples}
use Rattle.aes3_frame.specs.Sampled.{IsSample, payload_of_sample, sample_blocks, sampled, filled}
use Rattle.aes3_frame.specs.Statuses.{status_place, with_bits}
use Rattle.aes3_frame.specs.Subframes.{audio_len}
use Rattle.aes3_frame.proofs.Bytes.{bytes_number-low_bytes}
use Rattle.aes3_frame.proofs.Each.{all-nil, all-cons, all-payloads}
use Rattle.aes3_frame.proofs.Runs.{Each27}
use Rattle.aes3_frame.proofs.BlockLemmas.{count-within}

-- the sample of a word by itself
pub payload-sample : (w : ℕ) → w < 2 ^ 32 → payload_bits (w / 256) ≡ payload_of_sample w
unfolding payload_len audio_len
payload-sample w h =
    let e : w / 256 / 2 ^ 24 ≡ 0 = omega arith in
    low_bits-add 24 3 (w / 256) ∙ ap (λ k. low_bits 24 (w / 256) ++ low_bits 3 k) e

length-payload : (w : ℕ) → length (payload_of_sample w) ≡ payload_len
unfolding payload_len audio_len
length-payload w =
    let l = length-low_bits 24 (w / 256) in
    let k = length-append (low_bits 24 (w / 256)) (false ∷ false ∷ false ∷ []) in
    omega arith

sample-back : (w : ℕ) → IsSample w → sample_of (payload_of_sample w) ≡ w
unfolding audio_len
sample-back w h =
    let e : number (take 24 (payload_of_sample w)) ≡ w / 256 =
    ap number (take_at (low_bits 24 (w / 256)) (false ∷ false ∷ false ∷ []) 24 (length-low_bits 24 (w / 256)))
    ∙ number-low_bits 24 (w / 256) (let l = h.0 in omega arith) in
    let z = h.1 in
    omega arith

-- word number i of bytes
pub word-at : (bytes : List ℕ) (i : ℕ) → 4 * i + 4 ≤ length bytes
    → get_or (words_of bytes) i 0 ≡ bytes_number
    (get_or bytes (4 * i) 0 ∷ get_or bytes (4 * i + 1) 0 ∷ get_or bytes (4 * i + 2) 0 ∷ get_or bytes (4 * i + 3) 0 ∷ [])
word-at [] i h = absurd (omega arith)
word-at (a ∷ []) i h = absurd (omega arith)
word-at (a ∷ b ∷ []) i h = absurd (omega arith)
word-at (a ∷ b ∷ c ∷ []) i h = absurd (omega arith)
word-at (a ∷ b ∷ c ∷ d ∷ rest) zero h = refl
word-at (a ∷ b ∷ c ∷ d ∷ rest) (suc i) h =
    word-at rest i (omega arith)
    ∙ ap₂ (λ j k. bytes_number
    (get_or xs j 0 ∷ get_or xs k 0 ∷ get_or rest (4 * i + 2) 0 ∷ get_or rest (4 * i + 3) 0 ∷ []))
    (let e : suc (suc (suc (suc (4 * i)))) ≡ 4 * suc i = omega arith in
    e) (let e : suc (suc (suc (suc (4 * i + 1)))) ≡ 4 * suc i + 1 = omega arith in e)
    ∙ ap₂ (λ j k. bytes_number
    (get_or xs (4 * suc i) 0 ∷ get_or xs (4 * suc i + 1) 0 ∷ get_or xs j 0 ∷ get_or xs k 0 ∷ []))
    (let e : suc (suc (suc (suc (4 * i + 2)))) ≡ 4 * suc i + 2 = omega arith in
    e) (let e : suc (suc (suc (suc (4 * i + 3)))) ≡ 4 * suc i + 3 = omega arith in e)
  where
    xs : List ℕ
    xs = a ∷ b ∷ c ∷ d ∷ rest

-- the words of bytes one behind the other
pub words-join : (p q : List ℕ) → length p % 4 ≡ 0 → words_of (p ++ q) ≡ words_of p ++ words_of q
words-join [] q h = refl
words-join (a ∷ []) q h = absurd (omega arith)
words-join (a ∷ b ∷ []) q h = absurd (omega arith)
words-join (a ∷ b ∷ c ∷ []) q h = absurd (omega arith)
words-join (a ∷ b ∷ c ∷ d ∷ p) q h = ap (λ ws. bytes_number (a ∷ b ∷ c ∷ d ∷ []) ∷ ws) (words-join p q (omega arith))

pub words-zeros : (n : ℕ) → words_of (replicate (4 * n) 0) ≡ replicate n 0
words-zeros zero = refl
words-zeros (suc n) =
    ap (λ k. words_of (replicate k 0)) (let e : 4 * suc n ≡ suc (suc (suc (suc (4 * n)))) = omega arith in e)
    ∙ ap (λ ws. 0 ∷ ws) (words-zeros n)

-- the blocks of samples one behind the other
blocks-join : (m n : ℕ) (p q : List ℕ) → length p ≡ block_subframes * m
    → sample_blocks (m + n) (p ++ q) ≡ sample_blocks m p ++ sample_blocks n q
blocks-join zero n p q h = ap₂ (λ k v. sample_blocks k (v ++ q)) (let e : 0 + n ≡ n = omega arith in
    e) (nil_from_length p (omega arith))
blocks-join (suc m) n p q h =
    let le : block_subframes ≤ length p = omega arith in
    let l = length-drop block_subframes p in
    ap (λ k. sample_blocks k (p ++ q)) (let e : suc m + n ≡ suc (m + n) = omega arith in e)
    ∙ ap₂ (λ x y. map payload_of_sample x ∷ y) (take-append-le block_subframes p q le)
    (ap (sample_blocks (m + n)) (drop-append-le block_subframes p q le)
    ∙ blocks-join m n (drop block_subframes p) q (omega arith))

count-join : (m n k : ℕ) → k ≡ m + n → m % block_subframes ≡ 0 → k / block_subframes ≡ m / block_subframes + n / block_subframes
unfolding block_subframes
count-join m n k e h = omega arith

count-whole : (n : ℕ) → n % block_subframes ≡ 0 → n ≡ block_subframes * (n / block_subframes)
unfolding block_subframes
count-whole n h = omega arith

pub sampled-join : (p q : List ℕ) → length p % block_subframes ≡ 0 → sampled (p ++ q) ≡ sampled p ++ sampled q
unfolding sampled
sampled-join p q h =
    ap (λ k. sample_blocks k (p ++ q)) (count-join (length p) (length q) (length (p ++ q)) (length-append p q) h)
    ∙ blocks-join (length p / block_subframes) (length q / block_subframes) p q (count-whole (length p) h)

pub sampled-short : (q : List ℕ) → length q < block_subframes → sampled q ≡ []
unfolding sampled block_subframes
sampled-short q h = ap (λ k. sample_blocks k q) (let e : length q / 384 ≡ 0 = omega arith in e)

pub sampled-one : (q : List ℕ) → length q ≡ block_subframes → sampled q ≡ map payload_of_sample q ∷ []
unfolding sampled block_subframes
sampled-one q h =
    ap (λ k. sample_blocks k q) (let e : length q / 384 ≡ 1 = omega arith in e)
    ∙ ap (λ v. map payload_of_sample v ∷ []) (take_all 384 q (omega arith))

length-blocks : (n : ℕ) (ws : List ℕ) → length (sample_blocks n ws) ≡ n
length-blocks zero ws = refl
length-blocks (suc n) ws = ap suc (length-blocks n (drop block_subframes ws))

pub length-sampled : (ws : List ℕ) → length (sampled ws) ≡ length ws / 384
unfolding sampled block_subframes
length-sampled ws = length-blocks (length ws / 384) ws

pub length-filled : (ws : List ℕ) → length (filled ws) ≡ length ws + (384 - length ws % 384) % 384
unfolding block_subframes
length-filled ws =
    length-append ws (replicate ((384 - length ws % 384) % 384) 0)
    ∙ ap (λ k. length ws + k) (length-replicate ((384 - length ws % 384) % 384) 0)

-- they are blocks
each-sample : (ws : List ℕ) → Each27 (map payload_of_sample ws)
each-sample [] = tt
each-sample (w ∷ ws) = (length-payload w, each-sample ws)

sample-block : (ws : List ℕ) → block_subframes ≤ length ws → IsBlock (map payload_of_sample (take block_subframes ws))
sample-block ws h = record {
  count = length-map (take block_subframes ws) payload_of_sample ∙ length-take-le block_subframes ws h;
  payloads = all-payloads (map payload_of_sample (take block_subframes ws)) (each-sample (take block_subframes ws));
}

blocks-lawful : (n : ℕ) (ws : List ℕ) → block_subframes * n ≤ length ws → All IsBlock (sample_blocks n ws)
blocks-lawful zero ws h = all-nil IsBlock
blocks-lawful (suc n) ws h =
    let l = length-drop block_subframes ws in
    all-cons IsBlock (map payload_of_sample (take block_subframes ws)) (sample_blocks n (drop block_subframes ws))
    (sample-block ws (omega arith))
    (blocks-lawful n (drop block_subframes ws) (omega arith))

pub sampled-lawful : (ws : List ℕ) → All IsBlock (sampled ws)
unfolding sampled
sampled-lawful ws = blocks-lawful (length ws / block_subframes) ws (count-within (length ws))

-- samples of 24 bits are those of their blocks
abbrev EachSample : List ℕ → Type 0
EachSample [] = Unit {0}
EachSample (w ∷ ws) = IsSample w × EachSample ws

each-back : (ws : List ℕ) → EachSample ws → map sample_of (map payload_of_sample ws) ≡ ws
each-back [] h = refl
each-back (w ∷ ws) h = ap₂ (λ x xs. x ∷ xs) (sample-back w h.0) (each-back ws h.1)

each-take : (n : ℕ) (ws : List ℕ) → EachSample ws → EachSample (take n ws)
each-take zero ws h = tt
each-take (suc n) [] h = tt
each-take (suc n) (w ∷ ws) h = (h.0, each-take n ws h.1)

each-drop : (n : ℕ) (ws : List ℕ) → EachSample ws → EachSample (drop n ws)
each-drop zero ws h = h
each-drop (suc n) [] h = tt
each-drop (suc n) (w ∷ ws) h = each-drop n ws h.1

samples-blocks : (n : ℕ) (ws : List ℕ) → length ws ≡ block_subframes * n → EachSample ws
    → samples (sample_blocks n ws) ≡ flat_map word_bytes ws
unfolding block_samples
samples-blocks zero ws l h = ap (flat_map word_bytes) (sym (nil_from_length ws (omega arith)))
samples-blocks (suc n) ws l h =
    let k = length-drop block_subframes ws in
    ap₂ ◌++◌ (ap (flat_map word_bytes) (each-back (take block_subframes ws) (each-take block_subframes ws h)))
    (samples-blocks n (drop block_subframes ws) (omega arith) (each-drop block_subframes ws h))
    ∙ sym (flat_map-append word_bytes (take block_subframes ws) (drop block_subframes ws))
    ∙ ap (flat_map word_bytes) (take-append-drop block_subframes ws)

each-of : (ws : List ℕ) → All IsSample ws → EachSample ws
each-of [] h = tt
each-of (w ∷ ws) h = (h 0 0 (omega arith), each-of ws (λ k d lt. h (suc k) d (omega arith)))

each-filled : (n : ℕ) (ws : List ℕ) → EachSample ws → EachSample (ws ++ replicate n 0)
each-filled zero [] h = tt
each-filled (suc n) [] h = ((omega arith, refl), each-filled n [] tt)
each-filled n (w ∷ ws) h = (h.0, each-filled n ws h.1)

each-words : (ws : List ℕ) → EachSample ws → words_of (flat_map word_bytes ws) ≡ ws
each-words [] h = refl
each-words (w ∷ ws) h = ap₂ (λ x xs. x ∷ xs) (bytes_number-low_bytes w h.0.0) (each-words ws h.1)

pub words-back : (ws : List ℕ) → All IsSample ws → words_of (flat_map word_bytes ws) ≡ ws
words-back ws h = each-words ws (each-of ws h)

filled-whole : (n k : ℕ) → k ≡ n + (384 - n % 384) % 384 → k % block_subframes ≡ 0
unfolding block_subframes
filled-whole n k e = omega arith

pub samples-filled : (ws : List ℕ) → All IsSample ws → samples (sampled (filled ws)) ≡ flat_map word_bytes (filled ws)
unfolding sampled
samples-filled ws h =
    samples-blocks (length (filled ws) / block_subframes) (filled ws)
    (count-whole (length (filled ws)) (filled-whole (length ws) (length (filled ws)) (length-filled ws)))
    (each-filled ((block_subframes - length ws % block_subframes) % block_subframes) ws (each-of ws h))

-- another status leaves the samples
place-behind : audio_len ≤ status_place
unfolding status_place
place-behind = omega arith

samples-bits : (channel : Channel) (b : List (List Bool)) (bits : List Bool)
    → map sample_of (with_bits channel b bits) ≡ map sample_of b
samples-bits channel [] bits = refl
samples-bits First (p ∷ b) [] = refl
samples-bits First (p ∷ b) (c ∷ bits) =
    ap₂ (λ x xs. 256 * number x ∷ xs) (take-set-le audio_len p status_place c place-behind) (samples-bits Second b bits)
samples-bits Second (p ∷ b) bits = ap (λ xs. sample_of p ∷ xs) (samples-bits First b bits)
