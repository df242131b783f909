-- The fields of a status line for professional use (AES3-2), and the words of their codes.
use Rattle.std.specs.Prelude.{ℕ, Bool, true, false, List, [], ◌∷◌, ◌++◌, ◌==◌, ◌||◌, if◌then◌else◌, map, codes, decimal}
use Rattle.aes3_status.specs.declared.check.Check.{Check}
use Rattle.aes3_status.specs.declared.check.Check.TheVariants.{Good, Absent, Bad}
use Rattle.aes3_status.specs.declared.field.ProField.{ProField}
use Rattle.aes3_status.specs.declared.field.ProField.TheVariants as pro
use Rattle.aes3_status.specs.Professional.{payload, emphasis, unlocked, rate, mode, user, aux, word, b2high, b3, b4, b5}
use Rattle.aes3_status.specs.Professional.{origin, destination, local, time, unreliable, b22low}
use Rattle.aes3_status.specs.Words.{Words, word_for, payload_words, words_up_to_24, words_up_to_20, words_up_to_any}
use Rattle.aes3_status.specs.FieldTexts.{field_text, shown, four_bits}

-- byte 0 bits 2 to 4: pre-emphasis
abbrev pub emphasis_words : Words
emphasis_words = (0, codes "not-indicated") ∷ (1, codes "none") ∷ (3, codes "50/15") ∷ (7, codes "j17") ∷ []

-- byte 0 bit 5: whether the source's sampling frequency is unlocked
abbrev pub unlocked_words : Words
unlocked_words = (0, codes "no") ∷ (1, codes "yes") ∷ []

-- byte 0 bits 6 and 7: the sampling frequency
abbrev pub rate_words : Words
rate_words = (0, codes "not-indicated") ∷ (1, codes "44100") ∷ (2, codes "48000") ∷ (3, codes "32000") ∷ []

-- byte 1 bits 0 to 3: the channel mode
abbrev pub mode_words : Words
mode_words =
    (0, codes "not-indicated") ∷ (8, codes "two-channel") ∷ (4, codes "single") ∷ (12, codes "primary-secondary")
    ∷ (2, codes "stereophonic") ∷ []

-- byte 1 bits 4 to 7: how the user bits are managed
abbrev pub user_words : Words
user_words = (0, codes "not-indicated") ∷ (8, codes "block192") ∷ (12, codes "user") ∷ []

-- byte 2 bits 0 to 2: the use of the auxiliary bits
abbrev pub aux_words : Words
aux_words = (0, codes "undefined") ∷ (4, codes "audio") ∷ (2, codes "coordination") ∷ (6, codes "user") ∷ []

-- byte 2 bits 3 to 5: the sample word length; the use of the auxiliary bits tells the greatest
abbrev pub length_words : ℕ → Words
length_words aux =
    if aux == 4 then words_up_to_24
    else if aux == 0 || aux == 2 then words_up_to_20
    else words_up_to_any

-- the fields within a byte, by the names that `show` prints
abbrev pub pro_name : ProField → List ℕ
pro_name pro.Payload = codes "payload"
pro_name pro.Emphasis = codes "emphasis"
pro_name pro.Unlocked = codes "unlocked"
pro_name pro.Rate = codes "rate"
pro_name pro.Mode = codes "mode"
pro_name pro.User = codes "user"
pro_name pro.Aux = codes "aux"
pro_name pro.Word = codes "word"
pro_name pro.B2high = codes "b2high"
pro_name pro.B3 = codes "b3"
pro_name pro.B4 = codes "b4"
pro_name pro.B5 = codes "b5"
pro_name pro.Unreliable = codes "unreliable"
pro_name pro.B22low = codes "b22low"
pro_name pro.Frequency = codes "rate"

-- what `show` prints behind the name for each code of a field, where the number `under` tells what its codes mean
abbrev pub pro_word : ProField → ℕ → ℕ → List ℕ
pro_word pro.Payload under code = word_for payload_words code
pro_word pro.Emphasis under code = word_for emphasis_words code
pro_word pro.Unlocked under code = word_for unlocked_words code
pro_word pro.Rate under code = word_for rate_words code
pro_word pro.Mode under code = word_for mode_words code
pro_word pro.User under code = word_for user_words code
pro_word pro.Aux under code = word_for aux_words code
pro_word pro.Word under code = word_for (length_words under) code
pro_word pro.B2high under code = decimal code
pro_word pro.B3 under code = decimal code
pro_word pro.B4 under code = decimal code
pro_word pro.B5 under code = decimal code
pro_word pro.Unreliable under code = four_bits code
pro_word pro.B22low under code = decimal code
pro_word pro.Frequency under code = decimal code

-- whether the line has the field by itself: the sampling frequency of byte 4 stands in that of the whole byte
abbrev pub is_in_line : ProField → Bool
is_in_line pro.Frequency = false
is_in_line field = true

abbrev pub pro_text : ProField → ℕ → ℕ → List ℕ
pro_text field under code = if is_in_line field then field_text (pro_name field) (pro_word field under code) else []

-- byte 23: how the status stands to its check byte
abbrev pub check_word : Check → List ℕ
check_word Good = codes "good"
check_word Absent = codes "absent"
check_word Bad = codes "bad"

-- the fields of byte 0
unfoldable pub signal_fields : List ℕ → List ℕ
signal_fields bytes =
    pro_text pro.Payload 0 (payload bytes)
    ++ pro_text pro.Emphasis 0 (emphasis bytes)
    ++ pro_text pro.Unlocked 0 (unlocked bytes)
    ++ pro_text pro.Rate 0 (rate bytes)

-- the fields of bytes 1 and 2
unfoldable pub mode_fields : List ℕ → List ℕ
mode_fields bytes =
    pro_text pro.Mode 0 (mode bytes)
    ++ pro_text pro.User 0 (user bytes)
    ++ pro_text pro.Aux 0 (aux bytes)
    ++ pro_text pro.Word (aux bytes) (word bytes)
    ++ pro_text pro.B2high 0 (b2high bytes)

-- the fields of bytes 3 to 13
unfoldable pub name_fields : List ℕ → List ℕ
name_fields bytes =
    pro_text pro.B3 0 (b3 bytes)
    ++ pro_text pro.B4 0 (b4 bytes)
    ++ pro_text pro.B5 0 (b5 bytes)
    ++ field_text (codes "origin") (map shown (origin bytes))
    ++ field_text (codes "destination") (map shown (destination bytes))

-- the fields of bytes 14 to 22
unfoldable pub address_fields : List ℕ → List ℕ
address_fields bytes =
    field_text (codes "local") (decimal (local bytes))
    ++ field_text (codes "time") (decimal (time bytes))
    ++ pro_text pro.Unreliable 0 (unreliable bytes)
    ++ pro_text pro.B22low 0 (b22low bytes)

-- a channel status whose check byte stands so
unfoldable pub professional_text : List ℕ → Check → List ℕ
professional_text bytes check =
    codes " professional" ++ signal_fields bytes ++ mode_fields bytes ++ name_fields bytes ++ address_fields bytes
    ++ field_text (codes "check") (check_word check)
