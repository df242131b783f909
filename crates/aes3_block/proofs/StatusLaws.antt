-- Channel status set and read.
use Rattle.std.proofs.Common.{◌≡◌, ℕ, zero, suc, ◌+◌, ◌*◌, ◌/◌, ◌%◌, ◌<◌, List, [], ◌∷◌, ◌++◌, Bool, false, eqb, length}
use Rattle.std.proofs.Common.{map, take, drop, get_or, refl, sym, ap, ap₂, ◌∙◌, arith}
use Rattle.std.specs.Int.{bit_at}
use Rattle.std.specs.List.{All}
use Rattle.std.proofs.lemmas.List.{length-map, length-set, length-take-le, length-drop, take-append-drop, take_at}
use Rattle.std.proofs.lemmas.List.{drop_at, take-set, set-get_or, get_or-set_same}
use Rattle.std.proofs.lemmas.Option.{slice_get-get_or, get_or_from_slice_get}
use Rattle.aes3_bits.specs.Bits.{low_bits, number}
use Rattle.aes3_slot.specs.Slots.{IsPayload, payload_len}
use Rattle.aes3_bits.proofs.Bits.{length-low_bits, number-low_bits, low_bits-number}
use Rattle.aes3_frame.specs.declared.block.Channel.{Channel}
use Rattle.aes3_frame.specs.declared.block.Channel.TheVariants.{First, Second}
use Rattle.aes3_frame.specs.Blocks.{IsBlock}
use Rattle.aes3_frame.specs.Subframes.{audio_len}
use Rattle.aes3_frame.specs.Statuses.{of_channel, status_place, status_bit, status_bits, status_len, status_of}
use Rattle.aes3_frame.specs.Statuses.{bytes_in, bits_of_bytes, with_bits, with_status}
use Rattle.aes3_block.specs.Laws.{IsByte, payload_in, other_channel, SameButStatus}
use Rattle.aes3_frame.proofs.BlockLemmas.{block_subframes_384}
use Rattle.aes3_frame.proofs.Runs.{Each27}
use Rattle.aes3_frame.proofs.Each.{each-payload, all-payloads, EachByte, each-byte}
use Rattle.aes3_frame.proofs.StatusBits.{status_len_24, first-get, second-get, bits-at, length-bits_of_bytes}

-- the payloads of a channel are half of a block's
length-of_channel : (n : ℕ) (b : List (List Bool)) (channel : Channel) → length b ≡ 2 * n
    → length (of_channel channel b) ≡ n
length-of_channel zero [] channel h = refl
length-of_channel zero (p ∷ b) channel h = absurd (omega arith)
length-of_channel (suc n) [] channel h = absurd (omega arith)
length-of_channel (suc n) (p ∷ []) channel h = absurd (omega arith)
length-of_channel (suc n) (p ∷ q ∷ b) First h = ap suc (length-of_channel n b First (omega arith))
length-of_channel (suc n) (p ∷ q ∷ b) Second h = ap suc (length-of_channel n b Second (omega arith))

length-status_bits : (b : List (List Bool)) (channel : Channel) → IsBlock b
    → length (status_bits b channel) ≡ 8 * status_len
length-status_bits b channel h =
    let n = block_subframes_384 in
    let m = status_len_24 in
    let c = h.count in
    length-map (of_channel channel b) status_bit ∙ length-of_channel 192 b channel (omega arith) ∙ omega arith

-- bytes and their bits
bytes-of-bits : (n : ℕ) (bytes : List ℕ) → length bytes ≡ n → EachByte bytes → bytes_in n (bits_of_bytes bytes) ≡ bytes
bytes-of-bits zero [] l h = refl
bytes-of-bits zero (x ∷ bytes) l h = absurd (omega arith)
bytes-of-bits (suc n) [] l h = absurd (omega arith)
bytes-of-bits (suc n) (x ∷ bytes) l h =
    let e = length-low_bits 8 x in
    ap₂ (λ y ys. y ∷ ys)
    (ap number (take_at (low_bits 8 x) (bits_of_bytes bytes) 8 e) ∙ number-low_bits 8 x h.0)
    (ap (bytes_in n) (drop_at (low_bits 8 x) (bits_of_bytes bytes) 8 e) ∙ bytes-of-bits n bytes (omega arith) h.1)

bits-of-bytes : (n : ℕ) (bits : List Bool) → length bits ≡ 8 * n → bits_of_bytes (bytes_in n bits) ≡ bits
bits-of-bytes zero [] l = refl
bits-of-bytes zero (x ∷ bits) l = absurd (omega arith)
bits-of-bytes (suc n) bits l =
    let k : length (take 8 bits) ≡ 8 = length-take-le 8 bits (omega arith) in
    let m = length-drop 8 bits in
    ap₂ ◌++◌ (ap (λ w. low_bits w (number (take 8 bits))) (sym k) ∙ low_bits-number (take 8 bits))
    (bits-of-bytes n (drop 8 bits) (omega arith))
    ∙ take-append-drop 8 bits

pub bits-of-status : (b : List (List Bool)) (channel : Channel) → IsBlock b
    → bits_of_bytes (status_of b channel) ≡ status_bits b channel
unfolding status_of
bits-of-status b channel h = bits-of-bytes status_len (status_bits b channel) (length-status_bits b channel h)

-- the C bit within a payload
place-within : (p : List Bool) → IsPayload p → status_place < length p
unfolding status_place audio_len payload_len
place-within p h = omega arith

-- what is set is read
bits-back : (n : ℕ) (channel : Channel) (b : List (List Bool)) (bits : List Bool) → length b ≡ 2 * n
    → length bits ≡ n → Each27 b
    → status_bits (with_bits channel b bits) channel ≡ bits
bits-back zero channel [] [] l m h = refl
bits-back zero channel (p ∷ b) bits l m h = absurd (omega arith)
bits-back zero channel [] (c ∷ bits) l m h = absurd (omega arith)
bits-back (suc n) channel [] bits l m h = absurd (omega arith)
bits-back (suc n) channel (p ∷ []) bits l m h = absurd (omega arith)
bits-back (suc n) channel (p ∷ q ∷ b) [] l m h = absurd (omega arith)
bits-back (suc n) First (p ∷ q ∷ b) (c ∷ bits) l m h =
    ap₂ (λ x xs. x ∷ xs) (get_or-set_same p status_place c false (place-within p h.0))
    (bits-back n First b bits (omega arith) (omega arith) h.1.1)
bits-back (suc n) Second (p ∷ q ∷ b) (c ∷ bits) l m h =
    ap₂ (λ x xs. x ∷ xs) (get_or-set_same q status_place c false (place-within q h.1.0))
    (bits-back n Second b bits (omega arith) (omega arith) h.1.1)

pub status-back : (b : List (List Bool)) (channel : Channel) (bytes : List ℕ) → IsBlock b → length bytes ≡ status_len
    → All IsByte bytes
    → status_of (with_status b channel bytes) channel ≡ bytes
unfolding status_of with_status
status-back b channel bytes h l e =
    let n = block_subframes_384 in
    let m = status_len_24 in
    let c = h.count in
    let k = length-bits_of_bytes bytes in
    ap (bytes_in status_len)
    (bits-back 192 channel b (bits_of_bytes bytes) (omega arith) (omega arith) (each-payload b h.payloads))
    ∙ bytes-of-bits status_len bytes l (each-byte bytes e)

-- what is read may be set
bits-stay : (channel : Channel) (b : List (List Bool)) → with_bits channel b (status_bits b channel) ≡ b
bits-stay channel [] = refl
bits-stay First (p ∷ b) = ap₂ (λ x xs. x ∷ xs) (set-get_or p status_place false) (bits-stay Second b)
bits-stay Second (p ∷ b) = ap (λ xs. p ∷ xs) (bits-stay First b)

pub status-stays : (b : List (List Bool)) (channel : Channel) → IsBlock b
    → with_status b channel (status_of b channel) ≡ b
unfolding with_status
status-stays b channel h = ap (with_bits channel b) (bits-of-status b channel h) ∙ bits-stay channel b

-- nothing else changes
rest-stays : (channel : Channel) (b : List (List Bool)) (bits : List Bool)
    → map (take status_place) (with_bits channel b bits) ≡ map (take status_place) b
rest-stays channel [] bits = refl
rest-stays First (p ∷ b) [] = refl
rest-stays First (p ∷ b) (c ∷ bits) = ap₂ (λ x xs. x ∷ xs) (take-set p status_place c) (rest-stays Second b bits)
rest-stays Second (p ∷ b) bits = ap (λ xs. take status_place p ∷ xs) (rest-stays First b bits)

other-stays : (channel : Channel) (b : List (List Bool)) (bits : List Bool)
    → of_channel (other_channel channel) (with_bits channel b bits) ≡ of_channel (other_channel channel) b
other-stays channel [] bits = refl
other-stays First (p ∷ b) [] = refl
other-stays First (p ∷ b) (c ∷ bits) = other-stays Second b bits
other-stays Second (p ∷ b) bits = ap (λ xs. p ∷ xs) (other-stays First b bits)

length-with_bits : (channel : Channel) (b : List (List Bool)) (bits : List Bool)
    → length (with_bits channel b bits) ≡ length b
length-with_bits channel [] bits = refl
length-with_bits First (p ∷ b) [] = refl
length-with_bits First (p ∷ b) (c ∷ bits) = ap suc (length-with_bits Second b bits)
length-with_bits Second (p ∷ b) bits = ap suc (length-with_bits First b bits)

pub payloads-stay : (channel : Channel) (b : List (List Bool)) (bits : List Bool) → Each27 b
    → Each27 (with_bits channel b bits)
payloads-stay channel [] bits h = tt
payloads-stay First (p ∷ b) [] h = h
payloads-stay First (p ∷ b) (c ∷ bits) h = (length-set p status_place c ∙ h.0, payloads-stay Second b bits h.1)
payloads-stay Second (p ∷ b) bits h = (h.0, payloads-stay First b bits h.1)

pub status-only : (b : List (List Bool)) (channel : Channel) (bytes : List ℕ) → IsBlock b
    → SameButStatus b (with_status b channel bytes) channel
unfolding with_status status_of
status-only b channel bytes h =
    let bits = bits_of_bytes bytes in
    let o = other-stays channel b (bits_of_bytes bytes) in
    record {
      block = record {
        count = length-with_bits channel b bits ∙ h.count;
        payloads = all-payloads (with_bits channel b bits) (payloads-stay channel b bits (each-payload b h.payloads));
      };
      rest = rest-stays channel b bits;
      other = o;
      status = ap (λ ps. bytes_in status_len (map status_bit ps)) o;
    }

-- the bits of a status by frames
channel-get : (b : List (List Bool)) (channel : Channel) (i : ℕ) → length b ≡ 384 → i < 192
    → get_or (of_channel channel b) i [] ≡ payload_in b channel i
channel-get b First i l h =
    get_or_from_slice_get (of_channel First b) i (get_or b (2 * i) []) []
    (first-get b i (get_or b (2 * i) []) (slice_get-get_or b (2 * i) [] (omega arith)))
channel-get b Second i l h =
    get_or_from_slice_get (of_channel Second b) i (get_or b (2 * i + 1) []) []
    (second-get b i (get_or b (2 * i + 1) []) (slice_get-get_or b (2 * i + 1) [] (omega arith)))

get_or-map : {A B : Type 0} (f : A → B) (xs : List A) (i : ℕ) (d : A) (e : B) → i < length xs
    → get_or (map f xs) i e ≡ f (get_or xs i d)
get_or-map f [] i d e h = absurd (omega arith)
get_or-map f (x ∷ xs) zero d e h = refl
get_or-map f (x ∷ xs) (suc i) d e h = get_or-map f xs i d e (omega arith)

length-bytes_in : (n : ℕ) (bits : List Bool) → length (bytes_in n bits) ≡ n
length-bytes_in zero bits = refl
length-bytes_in (suc n) bits = ap suc (length-bytes_in n (drop 8 bits))

pub length-status_of : (b : List (List Bool)) (channel : Channel) → length (status_of b channel) ≡ status_len
unfolding status_of
length-status_of b channel = length-bytes_in status_len (status_bits b channel)

pub status-by-frames : (b : List (List Bool)) (channel : Channel) (i : ℕ) → IsBlock b → i < 192
    → eqb (bit_at (get_or (status_of b channel) (i / 8) 0) (i % 8)) 1 ≡ status_bit (payload_in b channel i)
status-by-frames b channel i h l =
    let n = block_subframes_384 in
    let m = status_len_24 in
    let k = length-status_of b channel in
    let c = h.count in
    let w = length-of_channel 192 b channel (omega arith) in
    sym (bits-at (status_of b channel) i (omega arith)) ∙ ap (λ bits. get_or bits i false) (bits-of-status b channel h)
    ∙ get_or-map status_bit (of_channel channel b) i [] false (omega arith)
    ∙ ap status_bit (channel-get b channel i (omega arith) l)
