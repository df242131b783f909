-- What `show` prints of a field of four bytes that a text sets.
use Rattle.std.specs.Prelude.{ℕ, Bool, false, List, ◌++◌, Some, true, ◌≡◌, ◌≢◌, ◌∷◌, codes, decimal, length, map}
use Rattle.std.specs.List.{Contains, after_first, list_all}
use Rattle.aes3_status.specs.declared.wide_field.WideField.{WideField}
use Rattle.aes3_status.specs.declared.wide_field.WideField.TheVariants.{Origin, Destination, Local, Time}
use Rattle.aes3_status.specs.declared.wide_field.WideSettings.{WideSettings}
use Rattle.aes3_status.specs.Professional.{destination, local, origin, time}
use Rattle.aes3_status.specs.Statuses.{is_professional}
use Rattle.aes3_status.specs.Wide.{AreFours, set_wide, wide_given}
use Rattle.aes3_status.specs.FieldTexts.{field_text, shown}
use Rattle.aes3_status.specs.WideTexts.{is_character, is_equals, padded, wide_in, wide_of_texts, written}

-- what `show` prints of the field of a professional status
abbrev pub wide_shown : WideField → List ℕ → List ℕ
wide_shown Origin bytes = field_text (codes "origin") (map shown (origin bytes))
wide_shown Destination bytes = field_text (codes "destination") (map shown (destination bytes))
wide_shown Local bytes = field_text (codes "local") (decimal (local bytes))
wide_shown Time bytes = field_text (codes "time") (decimal (time bytes))

-- the text as `show` prints it: characters as they stand but for spaces, and spaces behind them up to four, each as a
-- `.`; of a number the decimal digits
abbrev pub wide_text : WideField → List ℕ → List ℕ
wide_text Origin text = field_text (codes "origin") (map shown (padded (after_first is_equals text)))
wide_text Destination text = field_text (codes "destination") (map shown (padded (after_first is_equals text)))
wide_text Local text = field_text (codes "local") (decimal (written (after_first is_equals text)))
wide_text Time text = field_text (codes "time") (decimal (written (after_first is_equals text)))

-- what texts set has four bytes for each field
abbrev pub WideTextsAreFours : Type 0
WideTextsAreFours = (texts : List (List ℕ)) → AreFours (wide_of_texts texts)

-- where a field is given what the text has for it, `show` then prints the text of it
abbrev pub WideIsShown : Type 0
WideIsShown = (text : List ℕ) (f : WideField) (four bytes : List ℕ) (wide : WideSettings) → length bytes ≡ 24
    → is_professional bytes ≡ true → AreFours wide → wide_in text ≡ Some (f, four) → wide_given wide f ≡ Some four
    → wide_shown f (set_wide wide bytes) ≡ wide_text f text

-- the fields of characters
abbrev pub has_characters : WideField → Bool
has_characters Origin = true
has_characters Destination = true
has_characters Local = false
has_characters Time = false

-- four characters that are no spaces are printed as they stand
abbrev pub FullLabelsStay : Type 0
FullLabelsStay = (text : List ℕ) (f : WideField) (four : List ℕ) → wide_in text ≡ Some (f, four)
    → has_characters f ≡ true → length (after_first is_equals text) ≡ 4
    → list_all is_character (after_first is_equals text) ≡ true
    → wide_text f text ≡ codes " " ++ text

-- of the texts for a field the last counts
abbrev pub LastTextCounts : Type 0
LastTextCounts = (before behind : List (List ℕ)) (text : List ℕ) (f : WideField) (four : List ℕ)
    → wide_in text ≡ Some (f, four)
    → ((other other_four : List ℕ) → Contains behind other → wide_in other ≢ Some (f, other_four))
    → wide_given (wide_of_texts (before ++ text ∷ behind)) f ≡ Some four
