-- The fields of professional channel status (AES3-2), each by its byte, its first bit there and its number of bits.
use Rattle.std.specs.Prelude.{ℕ, Bool, true, false, List, [], ◌∷◌}
use Rattle.aes3_status.specs.declared.field.Place.{Place}
use Rattle.aes3_status.specs.declared.field.ProField.{ProField}
use Rattle.aes3_status.specs.declared.field.ProField.TheVariants as pro
use Rattle.aes3_status.specs.Bits.{field, bytes_field, number_at, place}

-- the fields within a byte
abbrev pub pro_fields : List ProField
pro_fields =
    pro.Payload ∷ pro.Emphasis ∷ pro.Unlocked ∷ pro.Rate ∷ pro.Mode ∷ pro.User ∷ pro.Aux ∷ pro.Word ∷ pro.B2high
    ∷ pro.B3 ∷ pro.B4 ∷ pro.B5 ∷ pro.Unreliable ∷ pro.B22low ∷ pro.Frequency ∷ []

-- where the fields within a byte stand: each by its byte, its first bit there and its number of bits
abbrev pub pro_place : ProField → Place
pro_place pro.Payload = place 0 1 1
pro_place pro.Emphasis = place 0 2 3
pro_place pro.Unlocked = place 0 5 1
pro_place pro.Rate = place 0 6 2
pro_place pro.Mode = place 1 0 4
pro_place pro.User = place 1 4 4
pro_place pro.Aux = place 2 0 3
pro_place pro.Word = place 2 3 3
pro_place pro.B2high = place 2 6 2
pro_place pro.B3 = place 3 0 8
pro_place pro.B4 = place 4 0 8
pro_place pro.B5 = place 5 0 8
pro_place pro.Unreliable = place 22 4 4
pro_place pro.B22low = place 22 0 4
pro_place pro.Frequency = place 4 3 4

-- whether the two have bits in common: byte 4 as a whole, and the sampling frequency in it
abbrev pub pro_share : ProField → ProField → Bool
pro_share pro.B4 pro.Frequency = true
pro_share pro.Frequency pro.B4 = true
pro_share f g = false

-- byte 0: linear PCM or other, pre-emphasis, lock, sampling frequency
abbrev pub payload : List ℕ → ℕ
payload = number_at (pro_place pro.Payload)

abbrev pub emphasis : List ℕ → ℕ
emphasis = number_at (pro_place pro.Emphasis)

abbrev pub unlocked : List ℕ → ℕ
unlocked = number_at (pro_place pro.Unlocked)

abbrev pub rate : List ℕ → ℕ
rate = number_at (pro_place pro.Rate)

-- byte 1: channel mode, management of the user bits
abbrev pub mode : List ℕ → ℕ
mode = number_at (pro_place pro.Mode)

abbrev pub user : List ℕ → ℕ
user = number_at (pro_place pro.User)

-- byte 2: use of the auxiliary bits, sample word length, alignment level
abbrev pub aux : List ℕ → ℕ
aux = number_at (pro_place pro.Aux)

abbrev pub word : List ℕ → ℕ
word = number_at (pro_place pro.Word)

abbrev pub b2high : List ℕ → ℕ
b2high = number_at (pro_place pro.B2high)

-- bytes 3 to 5, whole
abbrev pub b3 : List ℕ → ℕ
b3 = number_at (pro_place pro.B3)

abbrev pub b4 : List ℕ → ℕ
b4 = number_at (pro_place pro.B4)

-- byte 4 bits 3 to 6: a sampling frequency that byte 0 has no code for
abbrev pub frequency : List ℕ → ℕ
frequency = number_at (pro_place pro.Frequency)

abbrev pub b5 : List ℕ → ℕ
b5 = number_at (pro_place pro.B5)

-- bytes 6 to 13: origin and destination of the channel, by the first byte and their number
abbrev pub origin : List ℕ → List ℕ
origin = bytes_field 6 4

abbrev pub destination : List ℕ → List ℕ
destination = bytes_field 10 4

-- bytes 14 to 21: sample address codes, local and of the time of day
abbrev pub local : List ℕ → ℕ
local = field 14 0 32

abbrev pub time : List ℕ → ℕ
time = field 18 0 32

-- byte 22: reserved, reliability of bytes 0 to 5, 6 to 13, 14 to 17 and 18 to 21
abbrev pub b22low : List ℕ → ℕ
b22low = number_at (pro_place pro.B22low)

abbrev pub unreliable : List ℕ → ℕ
unreliable = number_at (pro_place pro.Unreliable)
