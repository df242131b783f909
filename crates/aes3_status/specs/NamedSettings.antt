-- Fields of channel status by their names and the words that `show` prints.
use Rattle.std.specs.Prelude.{ℕ, List, [], ◌∷◌, ◌++◌, Some, None, true, false, ◌≡◌, ◌≢◌, ◌⊎◌, ◌<◌, ◌≤◌, ◌+◌, ◌*◌, ◌^◌, codes}
use Rattle.std.specs.Prelude.{decimal, length, map, take, drop, get_or, replicate}
use Rattle.std.specs.List.{Contains, flat_map}
use Rattle.aes3_status.specs.declared.check.Check.{Check}
use Rattle.aes3_status.specs.declared.field.ConField.TheVariants as con
use Rattle.aes3_status.specs.declared.field.Field.{Field}
use Rattle.aes3_status.specs.declared.field.Field.TheVariants.{Use, Professional, Consumer}
use Rattle.aes3_status.specs.declared.setting.Setting.{Setting}
use Rattle.aes3_status.specs.declared.setting.Settings.{Settings}
use Rattle.aes3_status.specs.Professional as status
use Rattle.aes3_status.specs.Consumer as consumer_status
use Rattle.aes3_status.specs.Bits.{number_at}
use Rattle.aes3_status.specs.SettingLaws.{share_bits}
use Rattle.aes3_status.specs.Settings.{is_for, place_of, told_by, under, code_for, set_by}
use Rattle.hex.specs.Hex.{encode_lower}
use Rattle.aes3_status.specs.declared.listed_settings.SettingsFault.{SettingsFault}
use Rattle.aes3_status.specs.declared.listed_settings.SettingsFault.TheVariants.{Unknown, TooMany}
use Rattle.aes3_status.specs.FieldTexts.{field_text, shown}
use Rattle.aes3_status.specs.ProfessionalText as professional
use Rattle.aes3_status.specs.ConsumerText as consumer
use Rattle.aes3_status.specs.Names.{name_text}
use Rattle.aes3_status.specs.WideTexts.{wide_in, wide_of_texts}
use Rattle.aes3_status.specs.Words.{use_words, word_for}

-- what `show` prints of a code of a field, where another field tells what its codes mean; of the use the word alone
abbrev pub code_text : Field → ℕ → ℕ → List ℕ
code_text Use under code = field_text (codes "use") (word_for use_words code)
code_text (Professional f) under code = professional.pro_text f under code
code_text (Consumer f) under code = consumer.con_text f under code

-- what `show` prints of the field in a status
abbrev pub shown_of : Field → List ℕ → List ℕ
shown_of f bytes = code_text f (under f bytes) (number_at (place_of f) bytes)

-- what `show --names` prints of it behind the line
abbrev pub named_of : Field → List ℕ → List ℕ
named_of f bytes = name_text f (number_at (place_of f) bytes)

-- a code of a field is printed as a text `NAME=WORD`: in the line of `show`, or behind it by `show --names`
unfoldable pub IsPrintedSo : List ℕ → Field → ℕ → ℕ → Type 0
IsPrintedSo text f under code = (code_text f under code ≡ codes " " ++ text) ⊎ (name_text f code ≡ codes " " ++ text)

-- a field has a code that is printed so
abbrev pub IsCodeOf : List ℕ → Field → ℕ → ℕ → Type 0
IsCodeOf text f under code = (code < 2 ^ (place_of f).count) × IsPrintedSo text f under code

-- the codes of a setting are printed as the text; some code is, and where one is, the setting has one
pub record IsSettingOf (text : List ℕ) (fields : List Field) (setting : Setting) : Type 0 where
  pub field : Contains fields setting.field
  pub is : (under code : ℕ) → under < 8 → get_or setting.codes under None ≡ Some code
      → IsCodeOf text setting.field under code
  pub some : (under : ℕ) × (under < 8) × (get_or setting.codes under None ≢ None)
  pub all : (under code : ℕ) → under < 8 → IsCodeOf text setting.field under code
      → get_or setting.codes under None ≢ None

-- no code of these fields is printed as the text
abbrev pub IsNoSetting : List ℕ → List Field → Type 0
IsNoSetting text fields = (f : Field) (under code : ℕ) → Contains fields f → under < 8 → ¬ IsCodeOf text f under code

-- the fields that a status for each use has: the use itself, the others in the order in which `show` prints them, and
-- behind these the one that only `show --names` does
abbrev pub professional_fields : List Field
professional_fields = Use ∷ map Professional status.pro_fields

abbrev pub consumer_fields : List Field
consumer_fields = Use ∷ map Consumer consumer_status.con_fields

-- the setting that leaves each status as it is
abbrev pub nothing : Setting
nothing = record { field = Consumer con.Payload; codes = replicate 8 None }

-- what the text sets of these fields: nothing where none of their codes is printed so
abbrev pub IsSetBy : List ℕ → List Field → Setting → Type 0
IsSetBy text fields setting = IsSettingOf text fields setting ⊎ ((setting ≡ nothing) × IsNoSetting text fields)

-- no code of a field is printed as the text, for either use, and it sets no field of four bytes
abbrev pub IsUnknown : List ℕ → Type 0
IsUnknown text =
    IsNoSetting text professional_fields × IsNoSetting text consumer_fields × (wide_in text ≡ None)

-- what texts set, in their order: of text `k` that of professional status at `2 k`, that of consumer status behind it,
-- and apart from them the fields of four bytes; each sets something
pub record AreSettingsOf (texts : List (List ℕ)) (settings : Settings) : Type 0 where
  pub few : length texts ≤ 32
  pub known : (k : ℕ) → k < length texts → ¬ IsUnknown (get_or texts k [])
  pub professional : (k : ℕ) → k < length texts
      → IsSetBy (get_or texts k []) professional_fields (get_or settings.codes (2 * k) nothing)
  pub consumer : (k : ℕ) → k < length texts
      → IsSetBy (get_or texts k []) consumer_fields (get_or settings.codes (2 * k + 1) nothing)
  pub rest : (k : ℕ) → 2 * length texts ≤ k → get_or settings.codes k nothing ≡ nothing
  pub wide : settings.wide ≡ wide_of_texts texts

-- why texts have no settings: the first that is unknown, or that there are more than may stand
abbrev pub IsSettingsFault : List (List ℕ) → SettingsFault → Type 0
IsSettingsFault texts (Unknown at) = (at < length texts) × IsUnknown (get_or texts at [])
    × ((k : ℕ) → k < at → ¬ IsUnknown (get_or texts k []))
IsSettingsFault texts TooMany = 32 < length texts

-- where the setting has a code for a status, `show` then prints the text of it, or `show --names` does
abbrev pub IsShownThen : List ℕ → Setting → Type 0
IsShownThen text setting = (bytes : List ℕ) (code : ℕ) → length bytes ≡ 24 → code_for setting bytes ≡ Some code
    → (shown_of setting.field (set_by setting bytes) ≡ codes " " ++ text)
    ⊎ (named_of setting.field (set_by setting bytes) ≡ codes " " ++ text)

-- a setting leaves what `show` prints of each other field for the use of the status, unless the codes of that field
-- have another meaning under the number that is set: of the sample word length under the use of the auxiliary bits or
-- the greatest length, of the emphasis in consumer status under what the sample words carry; or they have bits in
-- common, as byte 4 and the sampling frequency in it
abbrev pub OtherWordsStay : Type 0
OtherWordsStay = (setting : Setting) (f : Field) (bytes : List ℕ) → length bytes ≡ 24 → is_for f bytes ≡ true
    → f ≢ setting.field → share_bits f setting.field ≡ false → told_by f ≢ Some setting.field → shown_of f (set_by setting bytes) ≡ shown_of f bytes

-- the line of `show` is made of these: the texts of the fields, with those of the fields that can't be set between them
abbrev pub shown_fields : List Field → List ℕ → List ℕ
shown_fields fields bytes = flat_map (λ f. shown_of f bytes) fields

abbrev pub LineShowsFields : Type 0
LineShowsFields = (bytes : List ℕ) (check : Check)
    → (consumer.consumer_text bytes
    ≡ codes " consumer" ++ shown_fields (drop 1 consumer_fields) bytes
    ++ field_text (codes "rest") (encode_lower (consumer_status.rest bytes)))
    × (professional.professional_text bytes check
    ≡ codes " professional" ++ shown_fields (drop 1 (take 13 professional_fields)) bytes
    ++ field_text (codes "origin") (map shown (status.origin bytes))
    ++ field_text (codes "destination") (map shown (status.destination bytes))
    ++ field_text (codes "local") (decimal (status.local bytes))
    ++ field_text (codes "time") (decimal (status.time bytes))
    ++ shown_fields (drop 13 professional_fields) bytes ++ field_text (codes "check") (professional.check_word check))
