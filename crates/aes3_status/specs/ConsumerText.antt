-- The fields of a status line for consumer use (IEC 60958-3), and the words of their codes.
use Rattle.std.specs.Prelude.{ℕ, List, [], ◌∷◌, ◌++◌, ◌==◌, if◌then◌else◌, codes, decimal}
use Rattle.hex.specs.Hex.{encode_lower}
use Rattle.aes3_status.specs.declared.field.ConField.{ConField}
use Rattle.aes3_status.specs.declared.field.ConField.TheVariants as con
use Rattle.aes3_status.specs.Consumer.{payload, copyright, emphasis, mode, category, generation, source, number, rate}
use Rattle.aes3_status.specs.Consumer.{accuracy, b3high, greatest, word, original, rest}
use Rattle.aes3_status.specs.Words.{Words, word_for, payload_words, words_up_to_24, words_up_to_20}
use Rattle.aes3_status.specs.FieldTexts.{field_text, specified}

-- byte 0 bit 2: copyright
abbrev pub copyright_words : Words
copyright_words = (0, codes "asserted") ∷ (1, codes "not-asserted") ∷ []

-- byte 0 bits 3 to 5: pre-emphasis of linear PCM; of anything else no code has a name
abbrev pub emphasis_words_of_pcm : Words
emphasis_words_of_pcm = (0, codes "none") ∷ (1, codes "50/15") ∷ []

abbrev pub emphasis_words : ℕ → Words
emphasis_words payload = if payload == 0 then emphasis_words_of_pcm else []

-- byte 1 bits 0 to 6: the category code without its last bit
abbrev pub category_words : Words
category_words = (0, codes "general") ∷ (1, codes "cd") ∷ (3, codes "dat") ∷ []

-- byte 3 bits 0 to 3: the sampling frequency
abbrev pub rate_words : Words
rate_words =
    (0, codes "44100") ∷ (1, codes "not-indicated") ∷ (2, codes "48000") ∷ (3, codes "32000") ∷ (4, codes "22050")
    ∷ (6, codes "24000") ∷ (8, codes "88200") ∷ (10, codes "96000") ∷ (12, codes "176400") ∷ (14, codes "192000") ∷ []

-- byte 3 bits 4 and 5: the clock accuracy
abbrev pub accuracy_words : Words
accuracy_words = (0, codes "level2") ∷ (1, codes "level1") ∷ (2, codes "level3") ∷ []

-- byte 4 bit 0: the greatest sample word length
abbrev pub greatest_words : Words
greatest_words = (0, codes "20") ∷ (1, codes "24") ∷ []

-- byte 4 bits 1 to 3: the sample word length under the code of the greatest
abbrev pub length_words : ℕ → Words
length_words greatest = if greatest == 0 then words_up_to_20 else words_up_to_24

-- the fields within a byte, by the names that `show` prints
abbrev pub con_name : ConField → List ℕ
con_name con.Payload = codes "payload"
con_name con.Copyright = codes "copyright"
con_name con.Emphasis = codes "emphasis"
con_name con.Mode = codes "mode"
con_name con.Category = codes "category"
con_name con.Generation = codes "generation"
con_name con.Source = codes "source"
con_name con.Number = codes "number"
con_name con.Rate = codes "rate"
con_name con.Accuracy = codes "accuracy"
con_name con.B3high = codes "b3high"
con_name con.Greatest = codes "greatest"
con_name con.Word = codes "word"
con_name con.Original = codes "original"

-- what `show` prints behind the name for each code of a field, where the number `under` tells what its codes mean
abbrev pub con_word : ConField → ℕ → ℕ → List ℕ
con_word con.Payload under code = word_for payload_words code
con_word con.Copyright under code = word_for copyright_words code
con_word con.Emphasis under code = word_for (emphasis_words under) code
con_word con.Mode under code = decimal code
con_word con.Category under code = word_for category_words code
con_word con.Generation under code = decimal code
con_word con.Source under code = specified code
con_word con.Number under code = specified code
con_word con.Rate under code = word_for rate_words code
con_word con.Accuracy under code = word_for accuracy_words code
con_word con.B3high under code = decimal code
con_word con.Greatest under code = word_for greatest_words code
con_word con.Word under code = word_for (length_words under) code
con_word con.Original under code = decimal code

abbrev pub con_text : ConField → ℕ → ℕ → List ℕ
con_text field under code = field_text (con_name field) (con_word field under code)

-- the fields of byte 0
unfoldable pub signal_fields : List ℕ → List ℕ
signal_fields bytes =
    con_text con.Payload 0 (payload bytes)
    ++ con_text con.Copyright 0 (copyright bytes)
    ++ con_text con.Emphasis (payload bytes) (emphasis bytes)
    ++ con_text con.Mode 0 (mode bytes)

-- the fields of bytes 1 and 2
unfoldable pub source_fields : List ℕ → List ℕ
source_fields bytes =
    con_text con.Category 0 (category bytes)
    ++ con_text con.Generation 0 (generation bytes)
    ++ con_text con.Source 0 (source bytes)
    ++ con_text con.Number 0 (number bytes)

-- the fields of byte 3
unfoldable pub rate_fields : List ℕ → List ℕ
rate_fields bytes =
    con_text con.Rate 0 (rate bytes)
    ++ con_text con.Accuracy 0 (accuracy bytes)
    ++ con_text con.B3high 0 (b3high bytes)

-- the fields of bytes 4 to 23
unfoldable pub length_fields : List ℕ → List ℕ
length_fields bytes =
    con_text con.Greatest 0 (greatest bytes)
    ++ con_text con.Word (greatest bytes) (word bytes)
    ++ con_text con.Original 0 (original bytes)
    ++ field_text (codes "rest") (encode_lower (rest bytes))

-- the use and its fields
unfoldable pub consumer_text : List ℕ → List ℕ
consumer_text bytes =
    codes " consumer" ++ signal_fields bytes ++ source_fields bytes ++ rate_fields bytes ++ length_fields bytes
