-- Samples and the words that carry them.
use Rattle.std.proofs.Common.{◌≡◌, ℕ, ◌*◌, ◌/◌, ◌%◌, ◌^◌, ◌<◌, List, length, map, take, get_or, sym, ap, ◌∙◌, arith}
use Rattle.std.proofs.lemmas.List.{take_at, get_or-map, length-map}
use Rattle.aes3_bits.specs.Bits.{low_bits, number}
use Rattle.aes3_slot.specs.Slots.{payload_len, payload_bits}
use Rattle.aes3_bits.proofs.Bits.{low_bits-add, length-low_bits, number-low_bits}
use Rattle.aes3_frame.specs.Files.{payload_of}
use Rattle.aes3_frame.specs.Samples.{sample_of}
use Rattle.aes3_frame.specs.Subframes.{audio_len}
use Rattle.aes3_frame.proofs.BitLemmas.{low_bits-mod}

-- the audio bits of a payload kept as a number
pub audio-bits : (n : ℕ) → take audio_len (payload_bits n) ≡ low_bits 24 (n % 2 ^ 24)
unfolding payload_len audio_len
audio-bits n =
    ap (take 24) (low_bits-add 24 3 n) ∙ take_at (low_bits 24 n) (low_bits 3 (n / 2 ^ 24)) 24 (length-low_bits 24 n)
    ∙ sym (low_bits-mod 24 n)

-- the sample in such a payload
pub sample-payload : (n : ℕ) → (n % 2 ^ 24) * 2 ^ 8 % 2 ^ 32 ≡ sample_of (payload_bits n)
sample-payload n =
    let e : number (take audio_len (payload_bits n)) ≡ n % 2 ^ 24 = ap number (audio-bits n)
    ∙ number-low_bits 24 (n % 2 ^ 24) (omega arith) in
    let k : number (take audio_len (payload_bits n)) < 2 ^ 24 = omega arith in
    omega arith

-- the sample of a word, and of words by place
pub samples-at : (words : List ℕ) (i : ℕ) → i < length words
    → get_or (map sample_of (map payload_of words)) i 0 ≡ sample_of (payload_of (get_or words i 0))
samples-at words i h =
    let l = length-map words payload_of in
    get_or-map sample_of (map payload_of words) i (payload_of 0) 0 (omega arith)
    ∙ ap sample_of (get_or-map payload_of words i 0 (payload_of 0) h)

pub length-samples : (words : List ℕ) → length (map sample_of (map payload_of words)) ≡ length words
length-samples words = length-map (map payload_of words) sample_of ∙ length-map words payload_of
