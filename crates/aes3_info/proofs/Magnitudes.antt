-- The samples of a channel of a block, by their words.
use Rattle.std.proofs.Common.{◌≡◌, ℕ, ◌+◌, ◌*◌, ◌/◌, ◌%◌, ◌^◌, ◌<◌, Bool, List, [], ◌∷◌, zero, suc, length, map, take, get_or}
use Rattle.std.proofs.Common.{max, refl, sym, ap, ◌∙◌, arith}
use Rattle.std.specs.List.{sum_by}
use Rattle.std.specs.Option.{option_map}
use Rattle.std.proofs.lemmas.List.{get_or-map, length-map, take_all}
use Rattle.std.proofs.lemmas.Option.{get_or_from_slice_get, slice_get-map}
use Rattle.std.proofs.lemmas.List.Sums.{sum_by_more}
use Rattle.aes3_bits.specs.Bits.{number}
use Rattle.aes3_bits.proofs.Bits.{number-low_bits}
use Rattle.aes3_slot.specs.Slots.{payload_bits}
use Rattle.aes3_frame.specs.declared.block.Channel.{Channel}
use Rattle.aes3_frame.specs.declared.block.Channel.TheVariants.{First, Second}
use Rattle.aes3_frame.specs.Files.{payload_of}
use Rattle.aes3_frame.specs.Statuses.{first_subframe_of, of_channel}
use Rattle.aes3_frame.proofs.Samples.{audio-bits}
use Rattle.aes3_frame.proofs.StatusBits.{channel-get}
use Rattle.aes3_info.specs.Facts.{greatest, magnitude, magnitude_of, magnitudes, more_energy, most_energy, square}

-- of the audio of a payload kept as a number
pub magnitude-bits : (n : ℕ) → magnitude_of (n % 2 ^ 24) ≡ magnitude (payload_bits n)
unfolding magnitude
magnitude-bits n =
    ap magnitude_of (sym (ap number (audio-bits n) ∙ number-low_bits 24 (n % 2 ^ 24) (omega arith)))

-- the magnitude of a channel's frame, by its word
audio-get : (b : List (List Bool)) (channel : Channel) (i n : ℕ) → n ≡ 2 * i + first_subframe_of channel → n < length b
    → get_or (map magnitude (of_channel channel b)) i 0 ≡ magnitude (get_or b n [])
audio-get b channel i n e h =
    get_or_from_slice_get (map magnitude (of_channel channel b)) i (magnitude (get_or b n [])) 0
    (slice_get-map magnitude (of_channel channel b) i ∙ ap (option_map magnitude) (channel-get b channel i n e h))

pub word-magnitude : (words : List ℕ) (channel : Channel) (i n : ℕ) → n ≡ 2 * i + first_subframe_of channel
    → n < length words
    → magnitude (payload_of (get_or words n 0)) ≡ get_or (magnitudes channel (map payload_of words)) i 0
unfolding magnitudes
word-magnitude words channel i n e h =
    let l = length-map words payload_of in
    sym (audio-get (map payload_of words) channel i n e (omega arith)
    ∙ ap magnitude (get_or-map payload_of words n 0 [] h))

-- how many payloads a channel has
first-length : (b : List (List Bool)) → length (of_channel First b) ≡ (length b + 1) / 2
first-length [] = refl
first-length (p ∷ []) = refl
first-length (p ∷ q ∷ b) = let e = first-length b in omega arith

half : (b : List (List Bool)) (channel : Channel) (n : ℕ) → length b ≡ 2 * n → length (of_channel channel b) ≡ n
half b First n h = let e = first-length b in omega arith
half [] Second n h = omega arith
half (p ∷ b) Second n h = let e = first-length b in omega arith

pub length-magnitudes : (words : List ℕ) (channel : Channel) → length words ≡ 384
    → length (magnitudes channel (map payload_of words)) ≡ 192
unfolding magnitudes
length-magnitudes words channel h =
    let l = length-map words payload_of in
    length-map (of_channel channel (map payload_of words)) magnitude
    ∙ half (map payload_of words) channel 192 (omega arith)

-- one more of them
greatest-take : (ms : List ℕ) (i : ℕ) → i < length ms
    → greatest (take (i + 1) ms) ≡ max (greatest (take i ms)) (get_or ms i 0)
greatest-take [] i h = omega arith
greatest-take (x ∷ ms) zero h = omega arith
greatest-take (x ∷ ms) (suc i) h =
    let e : suc i + 1 ≡ suc (i + 1) = omega arith in
    let g = greatest-take ms i (omega arith) in
    let n : max x (greatest (take (i + 1) ms)) ≡ max (max x (greatest (take i ms))) (get_or ms i 0) = omega arith in
    ap (λ k. greatest (take k (x ∷ ms))) e ∙ n

pub greatest-more : (ms : List ℕ) (i a m : ℕ) → i < length ms → m ≡ get_or ms i 0
    → max (max a (greatest (take i ms))) m ≡ max a (greatest (take (i + 1) ms))
greatest-more ms i a m h e = let g = greatest-take ms i h in omega arith

pub energy-more : (ms : List ℕ) (i a m : ℕ) → i < length ms → m ≡ square (get_or ms i 0)
    → more_energy (more_energy a (sum_by square (take i ms))) m ≡ more_energy a (sum_by square (take (i + 1) ms))
unfolding more_energy
energy-more ms i a m h e = let s = sum_by_more square ms i 0 h in omega arith

-- none, and all
pub energy-none : (a : ℕ) → a < 2 ^ 128 → a ≡ more_energy a 0
unfolding more_energy most_energy
energy-none a h = omega arith

pub greatest-all : (ms : List ℕ) (i a g : ℕ) → length ms ≡ i → g ≡ max a (greatest (take i ms)) → g ≡ max a (greatest ms)
greatest-all ms i a g h e = e ∙ ap (λ z. max a (greatest z)) (take_all i ms (omega arith))

pub energy-all : (ms : List ℕ) (i a g : ℕ) → length ms ≡ i → g ≡ more_energy a (sum_by square (take i ms))
    → g ≡ more_energy a (sum_by square ms)
energy-all ms i a g h e = e ∙ ap (λ z. more_energy a (sum_by square z)) (take_all i ms (omega arith))
