-- The words of codes that a line of channel status has as numbers (AES3-2, IEC 60958-3), by ALSA's `alsa/asoundef.h`
-- but for the sampling frequencies of byte 4.
use Rattle.std.specs.Prelude.{ℕ, List, [], ◌∷◌, codes}
use Rattle.std.specs.Option.{option_map_or}
use Rattle.aes3_status.specs.declared.field.ProField.{ProField}
use Rattle.aes3_status.specs.declared.field.ProField.TheVariants as pro
use Rattle.aes3_status.specs.declared.field.ConField.{ConField}
use Rattle.aes3_status.specs.declared.field.ConField.TheVariants as con
use Rattle.aes3_status.specs.declared.field.Field.{Field}
use Rattle.aes3_status.specs.declared.field.Field.TheVariants.{Use, Professional, Consumer}
use Rattle.aes3_status.specs.Words.{Words, word_of}
use Rattle.aes3_status.specs.FieldTexts.{field_text}
use Rattle.aes3_status.specs.ProfessionalText.{pro_name}
use Rattle.aes3_status.specs.ConsumerText.{con_name}

-- professional use, byte 1 bits 0 to 3: the channel mode
abbrev pub mode_names : Words
mode_names = (15, codes "vector-to-byte-3") ∷ []

-- professional use, byte 4 bits 3 to 6: the sampling frequency where byte 0 has no code for it (AES3-2)
abbrev pub frequency_names : Words
frequency_names =
    (1, codes "24000") ∷ (2, codes "96000") ∷ (3, codes "192000") ∷ (9, codes "22050") ∷ (10, codes "88200")
    ∷ (11, codes "176400") ∷ (15, codes "user-defined") ∷ []

-- consumer use, byte 1 bits 0 to 6: the category code without its last bit
unfoldable pub category_names : Words
category_names =
    (9, codes "non-iec908-cd") ∷ (73, codes "mini-disc") ∷ (25, codes "dvd") ∷ (121, codes "other-laser-optical")
    ∷ (2, codes "pcm-coder") ∷ (18, codes "mixer") ∷ (26, codes "rate-converter") ∷ (34, codes "sampler")
    ∷ (42, codes "sound-processor") ∷ (122, codes "other-converter")
    ∷ (11, codes "video-recorder") ∷ (67, codes "dcc") ∷ (27, codes "magnetic-disc") ∷ (123, codes "other-magnetic")
    ∷ (4, codes "dab-japan") ∷ (12, codes "dab-europe") ∷ (100, codes "dab-usa") ∷ (68, codes "software-delivery")
    ∷ (36, codes "iec62105") ∷ (124, codes "other-broadcast")
    ∷ (5, codes "synthesizer") ∷ (13, codes "microphone") ∷ (125, codes "other-musical")
    ∷ (6, codes "adc") ∷ (102, codes "other-adc") ∷ (22, codes "adc-copyright") ∷ (118, codes "other-adc-copyright")
    ∷ (8, codes "solid-state-recorder") ∷ (120, codes "other-solid-state") ∷ (64, codes "experimental") ∷ []

-- consumer use, byte 3 bits 0 to 3: the sampling frequency
abbrev pub rate_names : Words
rate_names = (9, codes "768000") ∷ []

-- consumer use, byte 4 bits 4 to 7: the original sampling frequency
unfoldable pub original_names : Words
original_names =
    (0, codes "not-indicated") ∷ (1, codes "192000") ∷ (2, codes "12000") ∷ (3, codes "176400") ∷ (5, codes "96000")
    ∷ (6, codes "8000") ∷ (7, codes "88200") ∷ (8, codes "16000") ∷ (9, codes "24000") ∷ (10, codes "11025")
    ∷ (11, codes "22050") ∷ (12, codes "32000") ∷ (13, codes "48000") ∷ (15, codes "44100") ∷ []

-- the name of a field, as `show` prints it; of the use `show` prints the word alone
abbrev pub name_of : Field → List ℕ
name_of Use = codes "use"
name_of (Professional f) = pro_name f
name_of (Consumer f) = con_name f

-- the words of a field's codes; none where no code of it has one
abbrev pub pro_names : ProField → Words
pro_names pro.Mode = mode_names
pro_names pro.Frequency = frequency_names
pro_names f = []

abbrev pub con_names : ConField → Words
con_names con.Category = category_names
con_names con.Rate = rate_names
con_names con.Original = original_names
con_names f = []

abbrev pub code_names : Field → Words
code_names Use = []
code_names (Professional f) = pro_names f
code_names (Consumer f) = con_names f

-- what `show --names` prints of a code of a field: ` NAME=WORD` where the code has a word, else nothing
abbrev pub name_text : Field → ℕ → List ℕ
name_text f code = option_map_or (field_text (name_of f)) (word_of (code_names f) code) []
