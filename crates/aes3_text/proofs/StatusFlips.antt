-- Two changed cells between two slots invert one bit of a channel status at most.
use Rattle.std.proofs.Common.{◌≡◌, ◌≢◌, ℕ, zero, suc, ◌-◌, ◌/◌, ◌%◌, ◌<◌, ◌⊎◌, inl, inr, List, [], ◌∷◌, ◌++◌}
use Rattle.std.proofs.Common.{Bool, true, false, not, map, refl, ap, ◌∙◌, sym, subst, arith}
use Rattle.aes3_frame.specs.declared.block.Channel.{Channel}
use Rattle.aes3_frame.specs.declared.block.Channel.TheVariants.{First, Second}
use Rattle.aes3_frame.specs.Blocks.{block_len, IsBlock}
use Rattle.aes3_frame.specs.Statuses.{of_channel, status_bit, status_bits, status_of, status_len, bytes_in}
use Rattle.aes3_frame.specs.Statuses.{bits_of_bytes}
use Rattle.aes3_block.proofs.StatusLaws.{bits-of-status, length-status_of}
use Rattle.aes3_frame.proofs.StatusBits.{status_len_24}
use Rattle.aes3_status.specs.declared.check.Check.TheVariants.{Good}
use Rattle.aes3_status.specs.Bits as status
use Rattle.aes3_status.specs.Check.{check_state_of}
use Rattle.aes3_status.specs.Laws.{OneFlipped}
use Rattle.aes3_status.proofs.Flips.{one-flip-state}
use Rattle.aes3_lock.specs.Damage.{between_slots, exchanged, pair_inverted, inverted_in}
use Rattle.aes3_lock.proofs.Exchanged.{exchanged-block}

-- a bit is another one or its inverse
bit-or : (x y : Bool) → (y ≡ x) ⊎ (y ≡ not x)
bit-or false false = inl refl
bit-or false true = inr refl
bit-or true false = inr refl
bit-or true true = inl refl

-- behind a bit
one-behind : (x : Bool) (a b : List Bool) → OneFlipped a b → OneFlipped (x ∷ a) (x ∷ b)
one-behind x a b f =
    let w = f.within in
    record { place = suc f.place; within = omega arith; is = ap (λ c. x ∷ c) f.is }

one-bit : (channel : Channel) (j n : ℕ) (b : List (List Bool))
    → (map status_bit (of_channel channel (inverted_in j n b)) ≡ map status_bit (of_channel channel b))
    ⊎ OneFlipped (map status_bit (of_channel channel b)) (map status_bit (of_channel channel (inverted_in j n b)))
one-bit channel j n [] = inl refl
one-bit First zero n (p ∷ ps) = go (bit-or (status_bit p) (status_bit (pair_inverted n p)))
  where
    go : (status_bit (pair_inverted n p) ≡ status_bit p) ⊎ (status_bit (pair_inverted n p) ≡ not (status_bit p))
        → (status_bit (pair_inverted n p) ∷ map status_bit (of_channel Second ps)
        ≡ status_bit p ∷ map status_bit (of_channel Second ps))
        ⊎ OneFlipped (status_bit p ∷ map status_bit (of_channel Second ps))
        (status_bit (pair_inverted n p) ∷ map status_bit (of_channel Second ps))
    go (inl e) = inl (ap (λ x. x ∷ map status_bit (of_channel Second ps)) e)
    go (inr e) = inr (record {
      place = 0;
      within = omega arith;
      is
          = ap (λ x. x ∷ map status_bit (of_channel Second ps)) e;
    })
one-bit Second zero n (p ∷ ps) = inl refl
one-bit First (suc j) n (p ∷ ps) = go (one-bit Second j n ps)
  where
    go : (map status_bit (of_channel Second (inverted_in j n ps)) ≡ map status_bit (of_channel Second ps))
        ⊎ OneFlipped (map status_bit (of_channel Second ps)) (map status_bit (of_channel Second (inverted_in j n ps)))
        → (status_bit p ∷ map status_bit (of_channel Second (inverted_in j n ps))
        ≡ status_bit p ∷ map status_bit (of_channel Second ps))
        ⊎ OneFlipped (status_bit p ∷ map status_bit (of_channel Second ps))
        (status_bit p ∷ map status_bit (of_channel Second (inverted_in j n ps)))
    go (inl e) = inl (ap (λ x. status_bit p ∷ x) e)
    go (inr f) = inr (one-behind (status_bit p) (map status_bit (of_channel Second ps))
        (map status_bit (of_channel Second (inverted_in j n ps))) f)
one-bit Second (suc j) n (p ∷ ps) = one-bit First j n ps

-- the bits of a status are the C bits of its channel
bits-same : (bytes : List ℕ) → bits_of_bytes bytes ≡ status.status_bits bytes
unfolding status.byte_bits
bits-same [] = refl
bits-same (byte ∷ bytes) = ap (λ v. status.byte_bits byte ++ v) (bits-same bytes)

bits-of : (b : List (List Bool)) (channel : Channel) → IsBlock b
    → status.status_bits (status_of b channel) ≡ status_bits b channel
bits-of b channel h = sym (bits-same (status_of b channel)) ∙ bits-of-status b channel h

status-same : (b d : List (List Bool)) (channel : Channel) → status_bits b channel ≡ status_bits d channel
    → status_of b channel ≡ status_of d channel
unfolding status_of
status-same b d channel e = ap (bytes_in status_len) e

pub exchanged-status : (b : List (List Bool)) (x : ℕ) (channel : Channel) → IsBlock b → suc x < block_len
    → between_slots x ≡ true
    → check_state_of (status_of b channel) ≡ Good → status_of (exchanged x b) channel ≢ status_of b channel
    → check_state_of (status_of (exchanged x b) channel) ≢ Good
exchanged-status b x channel h l t good changed = go (one-bit channel (x / 64) ((x % 64 - 9) / 2) b)
  where
    d : List (List Bool)
    d = exchanged x b

    go : (status_bits (exchanged x b) channel ≡ status_bits b channel)
        ⊎ OneFlipped (status_bits b channel) (status_bits (exchanged x b) channel)
        → check_state_of (status_of (exchanged x b) channel) ≢ Good
    go (inl e) = absurd (changed (status-same (exchanged x b) b channel e))
    go (inr f) =
        one-flip-state (status_of b channel) (status_of (exchanged x b) channel)
        (length-status_of (exchanged x b) channel ∙ status_len_24) good
        (subst (λ c. OneFlipped c (status.status_bits (status_of (exchanged x b) channel))) (sym (bits-of b channel h))
        (subst (OneFlipped (status_bits b channel)) (sym (bits-of (exchanged x b) channel (exchanged-block x b h))) f))
