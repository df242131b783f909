-- The fields of consumer channel status (IEC 60958-3), each by its byte, its first bit there and its number of bits.
use Rattle.std.specs.Prelude.{ℕ, List, [], ◌∷◌}
use Rattle.aes3_status.specs.declared.field.Place.{Place}
use Rattle.aes3_status.specs.declared.field.ConField.{ConField}
use Rattle.aes3_status.specs.declared.field.ConField.TheVariants as con
use Rattle.aes3_status.specs.Bits.{bytes_field, number_at, place}

-- the fields within a byte
abbrev pub con_fields : List ConField
con_fields =
    con.Payload ∷ con.Copyright ∷ con.Emphasis ∷ con.Mode ∷ con.Category ∷ con.Generation ∷ con.Source ∷ con.Number
    ∷ con.Rate ∷ con.Accuracy ∷ con.B3high ∷ con.Greatest ∷ con.Word ∷ con.Original ∷ []

-- where the fields within a byte stand: each by its byte, its first bit there and its number of bits
abbrev pub con_place : ConField → Place
con_place con.Payload = place 0 1 1
con_place con.Copyright = place 0 2 1
con_place con.Emphasis = place 0 3 3
con_place con.Mode = place 0 6 2
con_place con.Category = place 1 0 7
con_place con.Generation = place 1 7 1
con_place con.Source = place 2 0 4
con_place con.Number = place 2 4 4
con_place con.Rate = place 3 0 4
con_place con.Accuracy = place 3 4 2
con_place con.B3high = place 3 6 2
con_place con.Greatest = place 4 0 1
con_place con.Word = place 4 1 3
con_place con.Original = place 4 4 4

-- byte 0: linear PCM or other, copyright, additional format information, mode
abbrev pub payload : List ℕ → ℕ
payload = number_at (con_place con.Payload)

abbrev pub copyright : List ℕ → ℕ
copyright = number_at (con_place con.Copyright)

abbrev pub emphasis : List ℕ → ℕ
emphasis = number_at (con_place con.Emphasis)

abbrev pub mode : List ℕ → ℕ
mode = number_at (con_place con.Mode)

-- byte 1: category code, generation status
abbrev pub category : List ℕ → ℕ
category = number_at (con_place con.Category)

abbrev pub generation : List ℕ → ℕ
generation = number_at (con_place con.Generation)

-- byte 2: source number, channel number
abbrev pub source : List ℕ → ℕ
source = number_at (con_place con.Source)

abbrev pub number : List ℕ → ℕ
number = number_at (con_place con.Number)

-- byte 3: sampling frequency, clock accuracy
abbrev pub rate : List ℕ → ℕ
rate = number_at (con_place con.Rate)

abbrev pub accuracy : List ℕ → ℕ
accuracy = number_at (con_place con.Accuracy)

abbrev pub b3high : List ℕ → ℕ
b3high = number_at (con_place con.B3high)

-- byte 4: greatest sample word length, sample word length, original sampling frequency
abbrev pub greatest : List ℕ → ℕ
greatest = number_at (con_place con.Greatest)

abbrev pub word : List ℕ → ℕ
word = number_at (con_place con.Word)

abbrev pub original : List ℕ → ℕ
original = number_at (con_place con.Original)

-- bytes 5 to 23, by the first byte and their number
abbrev pub rest : List ℕ → List ℕ
rest = bytes_field 5 19
