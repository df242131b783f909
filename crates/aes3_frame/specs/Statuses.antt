-- Channel status: the C bits of one channel's 192 payloads are 24 bytes. V and U bits are read and set likewise.
use Rattle.std.specs.Prelude.{ℕ, zero, suc, List, [], ◌∷◌, Bool, false, ◌+◌, map, take, drop, slice_index_or, slice_set}
use Rattle.std.specs.List.{flat_map}
use Rattle.aes3_bits.specs.Bits.{low_bits, number}
use Rattle.aes3_frame.specs.declared.block.CarriedBits.{CarriedBits}
use Rattle.aes3_frame.specs.declared.block.CarriedBits.TheVariants.{Validity, User, Status}
use Rattle.aes3_frame.specs.declared.block.Channel.{Channel}
use Rattle.aes3_frame.specs.declared.block.Channel.TheVariants.{First, Second}
use Rattle.aes3_frame.specs.Subframes.{audio_len}

-- the payloads of a channel: payloads are of the first and the second channel in turn, so behind one the two change
-- places
abbrev pub of_channel : Channel → List (List Bool) → List (List Bool)
of_channel channel [] = []
of_channel First (p ∷ ps) = p ∷ of_channel Second ps
of_channel Second (p ∷ ps) = of_channel First ps

-- the number of a channel's first payload; each of its others stands two behind the one before
abbrev pub first_subframe_of : Channel → ℕ
first_subframe_of First = 0
first_subframe_of Second = 1

-- where V, U and C stand in a payload: behind the audio, in this order
unfoldable pub validity_place : ℕ
validity_place = audio_len

unfoldable pub user_place : ℕ
user_place = audio_len + 1

unfoldable pub status_place : ℕ
status_place = audio_len + 2

abbrev pub place_of : CarriedBits → ℕ
place_of Validity = validity_place
place_of User = user_place
place_of Status = status_place

-- the bits at one place of a channel's payloads, one for each frame
abbrev pub bits_at : ℕ → List (List Bool) → Channel → List Bool
bits_at place b channel = map (λ p. slice_index_or p place false) (of_channel channel b)

abbrev pub status_bit : List Bool → Bool
status_bit p = slice_index_or p status_place false

-- the C bits of a channel, one for each frame
abbrev pub status_bits : List (List Bool) → Channel → List Bool
status_bits b channel = map status_bit (of_channel channel b)

-- how many bytes a channel's status has in a block
unfoldable pub status_len : ℕ
status_len = 24

-- the first n bytes that bits make: each eight bits are a byte, the least significant first
abbrev pub bytes_in : ℕ → List Bool → List ℕ
bytes_in zero bits = []
bytes_in (suc n) bits = number (take 8 bits) ∷ bytes_in n (drop 8 bits)

-- the status of a channel
unfoldable pub status_of : List (List Bool) → Channel → List ℕ
status_of b channel = bytes_in status_len (status_bits b channel)

-- the V and the U bits of a channel, as bytes
unfoldable pub validity_of : List (List Bool) → Channel → List ℕ
validity_of b channel = bytes_in status_len (bits_at validity_place b channel)

unfoldable pub user_of : List (List Bool) → Channel → List ℕ
user_of b channel = bytes_in status_len (bits_at user_place b channel)

-- the bits of bytes, the least significant of each byte first
abbrev pub bits_of_bytes : List ℕ → List Bool
bits_of_bytes bytes = flat_map (low_bits 8) bytes

-- payloads of which those of a channel have the bit at one place from these bits in order, as far as the bits go
abbrev pub with_bits_at : ℕ → Channel → List (List Bool) → List Bool → List (List Bool)
with_bits_at place channel [] bits = []
with_bits_at place First (p ∷ ps) [] = p ∷ ps
with_bits_at place First (p ∷ ps) (c ∷ bits) = slice_set p place c ∷ with_bits_at place Second ps bits
with_bits_at place Second (p ∷ ps) bits = p ∷ with_bits_at place First ps bits

-- the C bits from these
abbrev pub with_bits : Channel → List (List Bool) → List Bool → List (List Bool)
with_bits channel b bits = with_bits_at status_place channel b bits

-- a block with the status, the V bits or the U bits of a channel, and all else as it was
unfoldable pub with_status : List (List Bool) → Channel → List ℕ → List (List Bool)
with_status b channel bytes = with_bits channel b (bits_of_bytes bytes)

unfoldable pub with_validity : List (List Bool) → Channel → List ℕ → List (List Bool)
with_validity b channel bytes = with_bits_at validity_place channel b (bits_of_bytes bytes)

unfoldable pub with_user : List (List Bool) → Channel → List ℕ → List (List Bool)
with_user b channel bytes = with_bits_at user_place channel b (bits_of_bytes bytes)
