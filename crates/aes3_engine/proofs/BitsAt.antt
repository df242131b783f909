-- The bits that the subframes of a block carry, set and read.
use Rattle.std.proofs.Common.{◌≡◌, ◌≢◌, ℕ, zero, suc, ◌*◌, ◌<◌, ◌≤◌, List, [], ◌∷◌, Bool, true, false, length, map}
use Rattle.std.proofs.Common.{refl, ap, ap₂, ◌∙◌, arith, get_or-set_same, get_or-set_other}
use Rattle.std.proofs.lemmas.List.{length-set, take-set-le}
use Rattle.aes3_bits.specs.Bits.{number}
use Rattle.aes3_slot.specs.Slots.{IsPayload, payload_len}
use Rattle.aes3_frame.specs.declared.block.Channel.{Channel}
use Rattle.aes3_frame.specs.declared.block.Channel.TheVariants.{First, Second}
use Rattle.aes3_frame.specs.Blocks.{IsBlock}
use Rattle.aes3_frame.specs.Samples.{sample_of}
use Rattle.aes3_frame.specs.Subframes.{audio_len}
use Rattle.aes3_frame.specs.Statuses.{bits_at, bits_of_bytes, bytes_in, status_len, with_bits_at}
use Rattle.aes3_block.specs.Laws.{other_channel}
use Rattle.aes3_frame.proofs.BlockLemmas.{block_subframes_384}
use Rattle.aes3_frame.proofs.Runs.{Each27}
use Rattle.aes3_frame.proofs.Each.{each-payload, all-payloads}
use Rattle.aes3_frame.proofs.StatusBits.{length-bits_of_bytes}
use Rattle.aes3_engine.specs.Rewriting.{all_bits}

-- bits at one place leave a block a block
pub each-at : (place : ℕ) (channel : Channel) (b : List (List Bool)) (bits : List Bool) → Each27 b
    → Each27 (with_bits_at place channel b bits)
each-at place channel [] bits h = tt
each-at place First (p ∷ b) [] h = h
each-at place First (p ∷ b) (c ∷ bits) h = (length-set p place c ∙ h.0, each-at place Second b bits h.1)
each-at place Second (p ∷ b) bits h = (h.0, each-at place First b bits h.1)

length-at : (place : ℕ) (channel : Channel) (b : List (List Bool)) (bits : List Bool)
    → length (with_bits_at place channel b bits) ≡ length b
length-at place channel [] bits = refl
length-at place First (p ∷ b) [] = refl
length-at place First (p ∷ b) (c ∷ bits) = ap suc (length-at place Second b bits)
length-at place Second (p ∷ b) bits = ap suc (length-at place First b bits)

pub lawful-at : (place : ℕ) (channel : Channel) (b : List (List Bool)) (bits : List Bool) → IsBlock b
    → IsBlock (with_bits_at place channel b bits)
lawful-at place channel b bits h = record {
  count = length-at place channel b bits ∙ h.count;
  payloads = all-payloads (with_bits_at place channel b bits)
      (each-at place channel b bits (each-payload b h.payloads));
}

-- behind the audio they leave the samples
pub samples-at : (place : ℕ) (channel : Channel) (b : List (List Bool)) (bits : List Bool) → audio_len ≤ place
    → map sample_of (with_bits_at place channel b bits) ≡ map sample_of b
samples-at place channel [] bits l = refl
samples-at place First (p ∷ b) [] l = refl
samples-at place First (p ∷ b) (c ∷ bits) l =
    ap₂ (λ x xs. 256 * number x ∷ xs) (take-set-le audio_len p place c l) (samples-at place Second b bits l)
samples-at place Second (p ∷ b) bits l = ap (λ xs. sample_of p ∷ xs) (samples-at place First b bits l)

-- at another place, and in the other channel, the bits stay
pub place-apart : (place other : ℕ) (channel read : Channel) (b : List (List Bool)) (bits : List Bool) → other ≢ place
    → bits_at other (with_bits_at place channel b bits) read ≡ bits_at other b read
place-apart place other channel read [] bits h = refl
place-apart place other First read (p ∷ b) [] h = refl
place-apart place other First First (p ∷ b) (c ∷ bits) h =
    ap₂ (λ x xs. x ∷ xs) (get_or-set_other p place other c false h) (place-apart place other Second Second b bits h)
place-apart place other First Second (p ∷ b) (c ∷ bits) h = place-apart place other Second First b bits h
place-apart place other Second First (p ∷ b) bits h =
    ap₂ (λ x xs. x ∷ xs) refl (place-apart place other First Second b bits h)
place-apart place other Second Second (p ∷ b) bits h = place-apart place other First First b bits h

pub channel-apart : (place other : ℕ) (channel : Channel) (b : List (List Bool)) (bits : List Bool)
    → bits_at other (with_bits_at place channel b bits) (other_channel channel)
    ≡ bits_at other b (other_channel channel)
channel-apart place other channel [] bits = refl
channel-apart place other First (p ∷ b) [] = refl
channel-apart place other First (p ∷ b) (c ∷ bits) = channel-apart place other Second b bits
channel-apart place other Second (p ∷ b) bits = ap₂ (λ x xs. x ∷ xs) refl (channel-apart place other First b bits)

-- what is set is read
within : (place : ℕ) (p : List Bool) → place < payload_len → IsPayload p → place < length p
within place p l h = omega arith

bits-back : (place n : ℕ) (channel : Channel) (b : List (List Bool)) (bits : List Bool) → place < payload_len
    → length b ≡ 2 * n → length bits ≡ n → Each27 b
    → bits_at place (with_bits_at place channel b bits) channel ≡ bits
bits-back place zero channel [] [] w l m h = refl
bits-back place zero channel (p ∷ b) bits w l m h = absurd (omega arith)
bits-back place zero channel [] (c ∷ bits) w l m h = absurd (omega arith)
bits-back place (suc n) channel [] bits w l m h = absurd (omega arith)
bits-back place (suc n) channel (p ∷ []) bits w l m h = absurd (omega arith)
bits-back place (suc n) channel (p ∷ q ∷ b) [] w l m h = absurd (omega arith)
bits-back place (suc n) First (p ∷ q ∷ b) (c ∷ bits) w l m h =
    ap₂ (λ x xs. x ∷ xs) (get_or-set_same p place c false (within place p w h.0))
    (bits-back place n First b bits w (omega arith) (omega arith) h.1.1)
bits-back place (suc n) Second (p ∷ q ∷ b) (c ∷ bits) w l m h =
    ap₂ (λ x xs. x ∷ xs) (get_or-set_same q place c false (within place q w h.1.0))
    (bits-back place n Second b bits w (omega arith) (omega arith) h.1.1)

all-back : (bit : Bool) → bytes_in status_len (bits_of_bytes (all_bits bit)) ≡ all_bits bit
unfolding status_len
all-back true = refl
all-back false = refl

length-all : (bit : Bool) → length (all_bits bit) ≡ 24
unfolding status_len
length-all true = refl
length-all false = refl

pub all-read : (place : ℕ) (channel : Channel) (b : List (List Bool)) (bit : Bool) → place < payload_len → IsBlock b
    → bytes_in status_len (bits_at place (with_bits_at place channel b (bits_of_bytes (all_bits bit))) channel)
    ≡ all_bits bit
all-read place channel b bit w h =
    let n = block_subframes_384 in
    let c = h.count in
    let l = length-all bit in
    let k = length-bits_of_bytes (all_bits bit) in
    ap (bytes_in status_len)
    (bits-back place 192 channel b (bits_of_bytes (all_bits bit)) w (omega arith) (omega arith)
    (each-payload b h.payloads))
    ∙ all-back bit
