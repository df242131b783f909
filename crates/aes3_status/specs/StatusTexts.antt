-- A channel status as it is printed.
use Rattle.std.specs.Prelude.{ℕ, List, ◌++◌, ◌≡◌, codes, if◌then◌else◌}
use Rattle.std.specs.List.{flat_map}
use Rattle.aes3_status.specs.declared.field.Field.{Field}
use Rattle.aes3_status.specs.declared.field.Field.TheVariants.{Use}
use Rattle.aes3_status.specs.Bits.{number_at}
use Rattle.aes3_status.specs.Settings.{place_of}
use Rattle.aes3_status.specs.Statuses.{is_professional}
use Rattle.aes3_status.specs.Check.{check_state_of}
use Rattle.aes3_status.specs.ProfessionalText.{professional_text}
use Rattle.aes3_status.specs.ConsumerText.{consumer_text}
use Rattle.aes3_status.specs.Words.{use_words, word_for}
use Rattle.aes3_status.specs.NamedSettings.{consumer_fields, named_of, professional_fields}

-- the use and the fields of a channel status
abbrev pub status_text : List ℕ → List ℕ
status_text bytes =
    if is_professional bytes then professional_text bytes (check_state_of bytes) else consumer_text bytes

-- the words of codes of these fields, each as a field
abbrev pub names_in : List Field → List ℕ → List ℕ
names_in fields bytes = flat_map (λ f. named_of f bytes) fields

-- the words of codes that the text of a status has as numbers, in the order in which it has these
unfoldable pub names_text : List ℕ → List ℕ
names_text bytes = names_in (if is_professional bytes then professional_fields else consumer_fields) bytes

-- what is printed of a status begins with the word of its use, as it is set by name
abbrev pub UseIsShown : Type 0
UseIsShown = (bytes : List ℕ)
    → (rest : List ℕ) × (status_text bytes ≡ codes " " ++ word_for use_words (number_at (place_of Use) bytes) ++ rest)
