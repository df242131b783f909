-- What a code in a field does to a status of 24 bytes.
use Rattle.std.specs.Prelude.{ℕ, Bool, List, Some, true, false, ◌≡◌, ◌≢◌, ◌≤◌, ◌<◌, ◌⊎◌, ◌+◌, ◌*◌, ◌%◌, ◌^◌, length}
use Rattle.aes3_status.specs.declared.field.Place.{Place}
use Rattle.aes3_status.specs.declared.field.Field.{Field}
use Rattle.aes3_status.specs.declared.field.Field.TheVariants.{Use, Professional}
use Rattle.aes3_status.specs.declared.setting.Setting.{Setting}
use Rattle.aes3_bits.specs.Bits.{low_bits}
use Rattle.aes3_status.specs.Bits.{status_bits, field, number_at}
use Rattle.aes3_status.specs.Professional.{pro_share}
use Rattle.aes3_status.specs.Statuses.{is_professional}
use Rattle.aes3_status.specs.Settings.{with_bits, with_field, place_of, is_for, told_by, under, code_for, set_by}

-- a field that lies within one of the bytes
pub record IsPlace (place : Place) : Type 0 where
  pub within : place.byte < 24
  pub inside : place.first + place.count ≤ 8

-- its first bit, of the 192 in order of transmission
abbrev pub first_bit : Place → ℕ
first_bit place = 8 * place.byte + place.first

-- its bits become those of the code, and all others stay
abbrev pub OnlyItsBitsChange : Type 0
OnlyItsBitsChange = (place : Place) (code : ℕ) (bytes : List ℕ) → IsPlace place → length bytes ≡ 24
    → status_bits (with_field place code bytes)
    ≡ with_bits (first_bit place) (low_bits place.count code) (status_bits bytes)

-- the code is read back, as far as the field has bits for it
abbrev pub CodeIsReadBack : Type 0
CodeIsReadBack = (place : Place) (code : ℕ) (bytes : List ℕ) → IsPlace place → length bytes ≡ 24
    → number_at place (with_field place code bytes) ≡ code % 2 ^ place.count

-- a field of any number of bits that ends before it or begins behind it stays
abbrev pub OtherFieldsStay : Type 0
OtherFieldsStay = (place : Place) (code : ℕ) (bytes : List ℕ) (byte bit count : ℕ) → IsPlace place → length bytes ≡ 24
    → (8 * byte + bit + count ≤ first_bit place) ⊎ (first_bit place + place.count ≤ 8 * byte + bit)
    → field byte bit count (with_field place code bytes) ≡ field byte bit count bytes

-- a setting of another field leaves the use of a status as it is
abbrev pub UseStays : Type 0
UseStays = (setting : Setting) (bytes : List ℕ) → length bytes ≡ 24 → setting.field ≢ Use
    → is_professional (set_by setting bytes) ≡ is_professional bytes

-- a setting leaves what tells the meaning of its field's codes
abbrev pub MeaningStays : Type 0
MeaningStays = (setting : Setting) (bytes : List ℕ) → length bytes ≡ 24
    → (length (set_by setting bytes) ≡ 24) × (under setting.field (set_by setting bytes) ≡ under setting.field bytes)

-- where it has a code for the status, the field has it then
abbrev pub SettingIsReadBack : Type 0
SettingIsReadBack = (setting : Setting) (bytes : List ℕ) (code : ℕ) → length bytes ≡ 24
    → code_for setting bytes ≡ Some code
    → number_at (place_of setting.field) (set_by setting bytes) ≡ code % 2 ^ (place_of setting.field).count

-- whether two fields have bits in common
abbrev pub share_bits : Field → Field → Bool
share_bits (Professional f) (Professional g) = pro_share f g
share_bits f g = false

-- a setting leaves the code of each other field that the status has, where they have no bits in common
abbrev pub OtherCodesStay : Type 0
OtherCodesStay = (setting : Setting) (f : Field) (bytes : List ℕ) → length bytes ≡ 24 → is_for f bytes ≡ true
    → f ≢ setting.field → share_bits f setting.field ≡ false
    → number_at (place_of f) (set_by setting bytes) ≡ number_at (place_of f) bytes

-- and what tells the meaning of its codes, unless this is the field that is set
abbrev pub OtherMeaningsStay : Type 0
OtherMeaningsStay = (setting : Setting) (f : Field) (bytes : List ℕ) → length bytes ≡ 24 → is_for f bytes ≡ true
    → told_by f ≢ Some setting.field
    → under f (set_by setting bytes) ≡ under f bytes
