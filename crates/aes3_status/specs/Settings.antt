-- Fields of channel status that get another code.
use Rattle.std.specs.Prelude.{ℕ, List, Bool, true, not, Option, Some, None, get_or}
use Rattle.std.specs.Prelude.{slice_set, fold, if◌then◌else◌}
use Rattle.std.specs.List.{list_any}
use Rattle.std.specs.Option.{is_some, option_map_or}
use Rattle.aes3_status.specs.declared.field.Place.{Place}
use Rattle.aes3_status.specs.declared.field.ProField.{ProField}
use Rattle.aes3_status.specs.declared.field.ProField.TheVariants as pro
use Rattle.aes3_status.specs.declared.field.ConField.{ConField}
use Rattle.aes3_status.specs.declared.field.ConField.TheVariants as con
use Rattle.aes3_status.specs.declared.field.Field.{Field}
use Rattle.aes3_status.specs.declared.field.Field.TheVariants.{Use, Professional, Consumer}
use Rattle.aes3_status.specs.declared.setting.Setting.{Setting}
use Rattle.aes3_status.specs.declared.setting.Settings.{Settings}
use Rattle.aes3_bits.specs.Bits.{low_bits, number}
use Rattle.aes3_status.specs.Bits.{byte_bits, number_at, place, with_part}
use Rattle.aes3_status.specs.Statuses.{is_professional}
use Rattle.aes3_status.specs.Professional as professional
use Rattle.aes3_status.specs.Consumer as consumer
use Rattle.aes3_status.specs.Wide.{set_wide}

-- whether a setting has a code for some status
abbrev pub has_any_code : Setting → Bool
has_any_code setting = list_any is_some setting.codes

-- these bits with the new ones in place of as many from place `at` on
abbrev pub with_bits : ℕ → List Bool → List Bool → List Bool
with_bits at new bits = with_part at new bits

-- a status with the lowest bits of a number in a field within one byte
unfoldable pub with_field : Place → ℕ → List ℕ → List ℕ
with_field place code bytes =
    slice_set bytes place.byte
    (number (with_bits place.first (low_bits place.count code) (byte_bits (get_or bytes place.byte 0))))

-- where a field stands
abbrev pub place_of : Field → Place
place_of Use = place 0 0 1
place_of (Professional f) = professional.pro_place f
place_of (Consumer f) = consumer.con_place f

-- whether a status has the field: each has the one of its use, and the others those for its use
abbrev pub is_for : Field → List ℕ → Bool
is_for Use bytes = true
is_for (Professional f) bytes = is_professional bytes
is_for (Consumer f) bytes = not (is_professional bytes)

-- the field whose number tells what the codes of a field mean; none where they mean the same under each
abbrev pub pro_told_by : ProField → Option Field
pro_told_by pro.Word = Some (Professional pro.Aux)
pro_told_by f = None

abbrev pub con_told_by : ConField → Option Field
con_told_by con.Emphasis = Some (Consumer con.Payload)
con_told_by con.Word = Some (Consumer con.Greatest)
con_told_by f = None

abbrev pub told_by : Field → Option Field
told_by Use = None
told_by (Professional f) = pro_told_by f
told_by (Consumer f) = con_told_by f

-- that number, 0 where there is none
abbrev pub under : Field → List ℕ → ℕ
under f bytes = option_map_or (λ g. number_at (place_of g) bytes) (told_by f) 0

-- the code that a setting has for a status; none where the status is for the other use
abbrev pub code_for : Setting → List ℕ → Option ℕ
code_for setting bytes =
    if is_for setting.field bytes then get_or setting.codes (under setting.field bytes) None else None

abbrev pub with_code : Place → Option ℕ → List ℕ → List ℕ
with_code place None bytes = bytes
with_code place (Some code) bytes = with_field place code bytes

-- a status with a setting: where it has no code for the status, the status stays
abbrev pub set_by : Setting → List ℕ → List ℕ
set_by setting bytes = with_code (place_of setting.field) (code_for setting bytes) bytes

-- one setting after the other
unfoldable pub set_in_turn : List Setting → List ℕ → List ℕ
set_in_turn settings bytes = fold (λ status setting. set_by setting status) bytes settings

-- a status with settings: their codes, and then what the fields of four bytes get
unfoldable pub set_all : Settings → List ℕ → List ℕ
set_all settings bytes = set_wide settings.wide (set_in_turn settings.codes bytes)
