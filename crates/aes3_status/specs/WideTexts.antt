-- Texts `NAME=WORD` of the fields of professional channel status that have four whole bytes (AES3-2).
use Rattle.std.specs.Prelude.{ℕ, List, Bool, ◌&&◌, ◌==◌, Option, Some, None, ◌^◌, codes, length, fold}
use Rattle.std.specs.Prelude.{◌++◌, ◌||◌, drop, get_or, nat_le, nat_lt, option_and_then, option_map, replicate, if◌then◌else◌}
use Rattle.std.specs.Char.{digit_value}
use Rattle.std.specs.Int.{to_le_bytes, w32}
use Rattle.std.specs.List.{after_first, before_first, list_all, position_or_len}
use Rattle.std.specs.Str.{bytes_eq}
use Rattle.std.specs.Str.Parse.{digits_value, without_leading_plus}
use Rattle.aes3_status.specs.declared.wide_field.WideField.{WideField}
use Rattle.aes3_status.specs.declared.wide_field.WideField.TheVariants.{Origin, Destination, Local, Time}
use Rattle.aes3_status.specs.declared.wide_field.WideSettings.{WideSettings}

-- whether the byte is a character from `!` to `~`
abbrev pub is_character : ℕ → Bool
is_character byte = nat_le 33 byte && nat_le byte 126

-- whether it is one of these or a space
abbrev pub is_printable : ℕ → Bool
is_printable byte = is_character byte || byte == 32

-- whether the word is one to four characters, of which the first is no space
abbrev pub is_label : List ℕ → Bool
is_label word =
    (nat_le (length word) 4 && is_character (get_or word 0 32)) && list_all is_printable word

-- the word with spaces behind it, four characters
abbrev pub padded : List ℕ → List ℕ
padded word = word ++ drop (length word) (replicate 4 32)

-- the four characters that the word stands for
abbrev pub characters_in : List ℕ → Option (List ℕ)
characters_in word = if is_label word then Some (padded word) else None

-- whether these are decimal digits, one or more
abbrev pub is_numeral : List ℕ → Bool
is_numeral digits = nat_lt 0 (length digits) && list_all (λ digit. nat_lt (digit_value digit) 10) digits

-- the number that the word writes, a plus before it or none
abbrev pub written : List ℕ → ℕ
written word = digits_value 10 (without_leading_plus word)

-- the four bytes of the number of 32 bits that the word writes, the lowest first
abbrev pub address_in : List ℕ → Option (List ℕ)
address_in word =
    if is_numeral (without_leading_plus word) && nat_lt (written word) (2 ^ 32)
    then Some (to_le_bytes w32 (written word)) else None

-- the name of a field, as `show` prints it
abbrev pub wide_name : WideField → List ℕ
wide_name Origin = codes "origin"
wide_name Destination = codes "destination"
wide_name Local = codes "local"
wide_name Time = codes "time"

-- the field of this name
abbrev pub wide_named : List ℕ → Option WideField
wide_named name = if bytes_eq name (codes "origin") then Some Origin
    else if bytes_eq name (codes "destination") then Some Destination
    else if bytes_eq name (codes "local") then Some Local
    else if bytes_eq name (codes "time") then Some Time
    else None

-- the four bytes that a word is for a field
abbrev pub four_in : WideField → List ℕ → Option (List ℕ)
four_in Origin word = characters_in word
four_in Destination word = characters_in word
four_in Local word = address_in word
four_in Time word = address_in word

abbrev pub is_equals : ℕ → Bool
is_equals byte = byte == 61

-- the name before the first `=` and the word behind it
abbrev pub parts_in : List ℕ → Option (List ℕ × List ℕ)
parts_in text = if nat_lt (position_or_len is_equals text) (length text)
    then Some (before_first is_equals text, after_first is_equals text) else None

-- the field of the name, and the four bytes that the word is for it
abbrev pub wide_of_parts : List ℕ × List ℕ → Option (WideField × List ℕ)
wide_of_parts parts =
    option_and_then (λ f. option_map (λ four. (f, four)) (four_in f parts.1)) (wide_named parts.0)

abbrev pub wide_in : List ℕ → Option (WideField × List ℕ)
wide_in text = option_and_then wide_of_parts (parts_in text)

-- these four bytes for the field
abbrev pub with_four : WideField → List ℕ → WideSettings → WideSettings
with_four Origin four wide =
    record { origin = Some four; destination = wide.destination; local = wide.local; time = wide.time }
with_four Destination four wide =
    record { origin = wide.origin; destination = Some four; local = wide.local; time = wide.time }
with_four Local four wide =
    record { origin = wide.origin; destination = wide.destination; local = Some four; time = wide.time }
with_four Time four wide =
    record { origin = wide.origin; destination = wide.destination; local = wide.local; time = Some four }

-- what a text sets, if anything, in place of what those before it set of the same field
abbrev pub with_wide : Option (WideField × List ℕ) → WideSettings → WideSettings
with_wide None wide = wide
with_wide (Some set) wide = with_four set.0 set.1 wide

abbrev pub no_wide : WideSettings
no_wide = record { origin = None; destination = None; local = None; time = None }

-- what the texts set, in their order
abbrev pub wide_of_texts : List (List ℕ) → WideSettings
wide_of_texts texts = fold (λ wide text. with_wide (wide_in text) wide) no_wide texts
