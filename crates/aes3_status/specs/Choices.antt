-- What is told in place of a text `NAME=WORD` that sets nothing: what could stand there.
use Rattle.std.specs.Prelude.{ℕ, List, [], ◌∷◌, ◌++◌, Bool, not, ◌&&◌, ◌||◌, ◌==◌, ◌^◌, nat_lt, if◌then◌else◌, codes}
use Rattle.std.specs.Prelude.{decimal, take}
use Rattle.std.specs.List.{before_first, flat_map, list_any, range_with_len}
use Rattle.std.specs.Option.{option_map_or}
use Rattle.std.specs.Str.{bytes_eq}
use Rattle.aes3_status.specs.declared.field.Field.{Field}
use Rattle.aes3_status.specs.declared.wide_field.WideField.{WideField}
use Rattle.aes3_status.specs.declared.wide_field.WideField.TheVariants.{Origin, Destination, Local, Time}
use Rattle.aes3_status.specs.Settings.{place_of}
use Rattle.aes3_status.specs.FieldTexts.{field_text}
use Rattle.aes3_status.specs.Names.{name_of, name_text}
use Rattle.aes3_status.specs.NamedSettings.{code_text, consumer_fields, professional_fields}
use Rattle.aes3_status.specs.WideTexts.{is_equals, wide_name, wide_named}

-- the name in a text: what stands before its first `=`, or all of it
abbrev pub name_in : List ℕ → List ℕ
name_in text = before_first is_equals text

-- whether the text has the field's name
abbrev pub is_named : List ℕ → Field → Bool
is_named text f = bytes_eq (name_in text) (name_of f)

-- the numbers from 0 on below this one
abbrev pub below : ℕ → List ℕ
below n = range_with_len 0 n

-- how many codes a field has
abbrev pub code_count : Field → ℕ
code_count f = 2 ^ (place_of f).count

-- whether a code of the field is printed so, where the number `under` tells what its codes mean
abbrev pub is_printed : List ℕ → Field → ℕ → Bool
is_printed text f under = list_any (λ code. bytes_eq (code_text f under code) text) (below (code_count f))

-- whether a code has a word: one without is printed as `code` and its number
abbrev pub has_word : Field → ℕ → ℕ → Bool
has_word f under code = not (bytes_eq (code_text f under code) (field_text (name_of f) (codes "code" ++ decimal code)))

-- whether a code is printed as one is that is told already, under a lower number
abbrev pub is_told : Field → ℕ → ℕ → Bool
is_told f under code = list_any (is_printed (code_text f under code) f) (below under)

-- of all codes of a byte the first and the last, of fewer codes each
abbrev pub among : ℕ → ℕ → List ℕ → List ℕ
among count code text =
    if nat_lt count 256 || code == 0 then text
    else (if code == 255 then codes " .." ++ text else [])

-- what is told of a code: nothing where it has no word, nor where the same is told already
abbrev pub code_choice : Field → ℕ → ℕ → List ℕ
code_choice f under code =
    if has_word f under code && not (is_told f under code)
    then among (code_count f) code (code_text f under code)
    else []

-- what a field can be set to, where the number `under` tells what its codes mean
abbrev pub code_choices : Field → ℕ → List ℕ
code_choices f under = flat_map (code_choice f under) (below (code_count f))

-- what is told of the codes that `show --names` has words for
abbrev pub name_choices : Field → List ℕ
name_choices f = flat_map (name_text f) (below (code_count f))

-- what a field can be set to
unfoldable pub field_choices : Field → List ℕ
field_choices f = flat_map (code_choices f) (below 8) ++ name_choices f

-- the same, if the text has the field's name
abbrev pub named_choices : List ℕ → Field → List ℕ
named_choices text f = if is_named text f then field_choices f else []

abbrev pub has_name : List Field → List ℕ → Bool
has_name fields text = list_any (is_named text) fields

-- whether a field for either use has the name
abbrev pub is_known : List ℕ → Bool
is_known text = has_name professional_fields text || has_name consumer_fields text

abbrev pub names_of : List Field → List ℕ
names_of fields = flat_map (λ f. codes " " ++ name_of f) fields

-- the line of the fields for one use: what those of the name can be set to, or if there is none for either use the
-- names of those that the line has, and more of them behind these
unfoldable pub use_choices : List ℕ → List Field → List Field → List ℕ → List ℕ → List ℕ
use_choices head fields in_line more text =
    if is_known text
    then (if has_name fields text then head ++ flat_map (named_choices text) fields ++ 10 ∷ [] else [])
    else head ++ names_of in_line ++ more ++ 10 ∷ []

-- the names of the fields of four bytes
abbrev pub wide_names : List ℕ
wide_names = codes " origin destination local time"

-- a line for each use
unfoldable pub both_choices : List ℕ → List ℕ
both_choices text =
    use_choices (codes "  professional:") professional_fields (take 15 professional_fields) wide_names text
    ++ use_choices (codes "  consumer:") consumer_fields consumer_fields [] text

-- what a field of four bytes can be set to
abbrev pub wide_word : WideField → List ℕ
wide_word Origin = codes "one to four characters, the first no space"
wide_word Destination = codes "one to four characters, the first no space"
wide_word Local = codes "a number below 4294967296"
wide_word Time = codes "a number below 4294967296"

-- the line of a field of four bytes
abbrev pub wide_choice : WideField → List ℕ
wide_choice f = codes "  professional: " ++ wide_name f ++ codes "= and " ++ wide_word f ++ 10 ∷ []

-- what could stand in place of the text: where it names a field of four bytes its line, else a line for each use
unfoldable pub choices : List ℕ → List ℕ
choices text = option_map_or wide_choice (wide_named (name_in text)) (both_choices text)
