-- The fields of professional channel status that have four whole bytes (AES3-2), set as a whole.
use Rattle.std.specs.Prelude.{ℕ, List, Option, Some, None, true, ◌≡◌, length, take, drop}
use Rattle.std.specs.Prelude.{if◌then◌else◌}
use Rattle.std.specs.Option.{unwrap_or}
use Rattle.aes3_status.specs.declared.wide_field.WideField.{WideField}
use Rattle.aes3_status.specs.declared.wide_field.WideField.TheVariants.{Origin, Destination, Local, Time}
use Rattle.aes3_status.specs.declared.wide_field.WideSettings.{WideSettings}
use Rattle.aes3_status.specs.Bits.{bytes_field, with_part}
use Rattle.aes3_status.specs.Statuses.{is_professional}

-- the first byte of a field
abbrev pub wide_at : WideField → ℕ
wide_at Origin = 6
wide_at Destination = 10
wide_at Local = 14
wide_at Time = 18

-- what a field is given, if anything
abbrev pub wide_given : WideSettings → WideField → Option (List ℕ)
wide_given wide Origin = wide.origin
wide_given wide Destination = wide.destination
wide_given wide Local = wide.local
wide_given wide Time = wide.time

-- these bytes in place of as many from byte `at` on, where some are given
abbrev pub set_four : ℕ → Option (List ℕ) → List ℕ → List ℕ
set_four at None bytes = bytes
set_four at (Some four) bytes = with_part at four bytes

-- professional status with them; consumer status stays
unfoldable pub set_wide : WideSettings → List ℕ → List ℕ
set_wide wide bytes =
    if is_professional bytes
    then set_four 18 wide.time (set_four 14 wide.local (set_four 10 wide.destination (set_four 6 wide.origin bytes)))
    else bytes

-- the four bytes of a field
abbrev pub wide_bytes : WideField → List ℕ → List ℕ
wide_bytes f bytes = bytes_field (wide_at f) 4 bytes

-- what each field is given has four bytes
abbrev pub AreFours : WideSettings → Type 0
AreFours wide = (f : WideField) (four : List ℕ) → wide_given wide f ≡ Some four → length four ≡ 4

-- professional status then has what each field is given, and the others stay
abbrev pub WideIsReadBack : Type 0
WideIsReadBack = (wide : WideSettings) (f : WideField) (bytes : List ℕ) → length bytes ≡ 24 → AreFours wide
    → is_professional bytes ≡ true
    → wide_bytes f (set_wide wide bytes) ≡ unwrap_or (wide_given wide f) (wide_bytes f bytes)

-- bytes 0 to 5, which tell the use, and 22 and 23 stay
abbrev pub OtherBytesStay : Type 0
OtherBytesStay = (wide : WideSettings) (bytes : List ℕ) → length bytes ≡ 24 → AreFours wide
    → (length (set_wide wide bytes) ≡ 24) × (take 6 (set_wide wide bytes) ≡ take 6 bytes)
    × (drop 22 (set_wide wide bytes) ≡ drop 22 bytes)
