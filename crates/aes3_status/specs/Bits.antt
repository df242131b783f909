-- The bits of a channel status in order of transmission, and the numbers that they stand for.
use Rattle.std.specs.Prelude.{ℕ, List, [], ◌∷◌, ◌++◌, Bool, length, take, drop, ◌+◌, ◌*◌}
use Rattle.aes3_bits.specs.Bits.{low_bits, number}
use Rattle.aes3_status.specs.declared.field.Place.{Place}

-- the bits of a byte in order of transmission: bit 0 first
unfoldable pub byte_bits : ℕ → List Bool
byte_bits byte = low_bits 8 byte

-- the bits of bytes in order of transmission: those of byte 0 first
abbrev pub status_bits : List ℕ → List Bool
status_bits [] = []
status_bits (byte ∷ bytes) = byte_bits byte ++ status_bits bytes

-- a field: the number of `count` bits from bit `bit` of byte `byte` on, in order of transmission
unfoldable pub field : ℕ → ℕ → ℕ → List ℕ → ℕ
field byte bit count bytes = number (take count (drop (8 * byte + bit) (status_bits bytes)))

-- a field of whole bytes: `count` bytes from byte `byte` on
unfoldable pub bytes_field : ℕ → ℕ → List ℕ → List ℕ
bytes_field byte count bytes = take count (drop byte bytes)

-- these items in place of as many from place `at` on
abbrev pub with_part : {T : Type 0} → ℕ → List T → List T → List T
with_part at new items = take at items ++ (new ++ drop (at + length new) items)

-- `count` bits from bit `first` of byte `byte` on
abbrev pub place : ℕ → ℕ → ℕ → Place
place byte first count = record { byte = byte; first = first; count = count }

-- the number there
abbrev pub number_at : Place → List ℕ → ℕ
number_at place bytes = field place.byte place.first place.count bytes
