-- The lines that tell a refusal, a remark on a job that ended well, and words that can not be read.
use Rattle.std.specs.Option.{option_map_or}
use Rattle.std.specs.Prelude.{ℕ, List, [], ◌∷◌, ◌++◌, Option, Some, None, codes, decimal}
use Rattle.aes3_refusals.specs.declared.run_error.RunError.TheVariants as refusal
use Rattle.aes3_cli_jobs.specs.Refusals.{number_of_refusal, place_of_refusal}
use Rattle.aes3_cli_jobs.specs.declared.wave_refusal.Refusal.{Refusal}
use Rattle.aes3_cli_jobs.specs.declared.wave_refusal.Refusal.TheVariants.{Run}
use Rattle.aes3_status.specs.Refusals.{refusal_text}
use Rattle.aes3_program.specs.declared.outcome.Remark.{Remark}
use Rattle.aes3_program.specs.declared.outcome.Remark.TheVariants.{Nothing, Filled, LeftOut, Settings, Inexact}
use Rattle.aes3_program.specs.declared.outcome.Remark.TheVariants.{UsualRate, FilledAtUsualRate, CutShort, Wave}
use Rattle.aes3_program.specs.declared.outcome.UnsaidFormat.{UnsaidFormat}
use Rattle.aes3_program.specs.declared.outcome.Met.{Met}
use Rattle.aes3_status.specs.Untaken.{texts_of, untaken_lines}
use Rattle.aes3_status.specs.declared.typed_settings.TypedSettings.{TypedSettings}

-- `aes3: refused <number>`, the place and a line feed
abbrev pub refusal_line : Refusal → List ℕ
refusal_line error = refusal_text (codes "aes3") (number_of_refusal error) (place_of_refusal error)

-- `aes3: filled <frames> frames`, and `aes3: left out <words> words before the first block`
abbrev pub filled_line : ℕ → List ℕ
filled_line frames = codes "aes3: filled " ++ decimal frames ++ codes " frames" ++ 10 ∷ []

abbrev pub left_out_line : ℕ → List ℕ
left_out_line words = codes "aes3: left out " ++ decimal words ++ codes " words before the first block" ++ 10 ∷ []

-- the lines of the texts typed for a channel that no block took, where there are settings
abbrev pub met_lines : ℕ → List (List ℕ) → Met → List ℕ
met_lines channel texts met =
    option_map_or (λ settings. untaken_lines channel settings met.taken 0 texts) met.settings []

-- what is told where the sampling frequency of a WAV file that is written is neither given nor named
abbrev pub usual_rate_line : List ℕ
usual_rate_line = codes "aes3: no sampling frequency is known before the first sample: the WAV file says 48000 Hz" ++ 10 ∷ []

-- what is told of the format of a WAV file, where the status has no code for it
abbrev pub no_rate_line : ℕ → List ℕ
no_rate_line rate = codes "aes3: the status has no code for " ++ decimal rate ++ codes " Hz\n"

abbrev pub no_width_line : ℕ → List ℕ
no_width_line bits = codes "aes3: the status has no code for samples of " ++ decimal bits ++ codes " bits\n"

abbrev pub unsaid_rate_line : Option ℕ → List ℕ
unsaid_rate_line None = []
unsaid_rate_line (Some rate) = no_rate_line rate

abbrev pub unsaid_width_line : Option ℕ → List ℕ
unsaid_width_line None = []
unsaid_width_line (Some bits) = no_width_line bits

abbrev pub unsaid_lines : UnsaidFormat → List ℕ
unsaid_lines unsaid = unsaid_rate_line unsaid.rate ++ unsaid_width_line unsaid.bits

-- what is told of a WAV file that ends so many bytes before its header says
abbrev pub cut_short_line : ℕ → List ℕ
cut_short_line missing = codes "aes3: the file is cut short: " ++ decimal missing ++ codes " bytes of samples are missing\n"

abbrev pub missing_line : Option ℕ → List ℕ
missing_line None = []
missing_line (Some missing) = cut_short_line missing

-- what is told of a WAV file: of its format, and of settings
abbrev pub wave_lines : TypedSettings → UnsaidFormat → Met → Met → List ℕ
wave_lines typed unsaid first second =
    unsaid_lines unsaid ++ (met_lines 1 (texts_of typed.first) first ++ met_lines 2 (texts_of typed.second) second)

-- what is told of a job that read its input to the end, where its settings were typed so
abbrev pub remark_line : TypedSettings → Remark → List ℕ
remark_line typed Nothing = []
remark_line typed (Filled frames) = filled_line frames
remark_line typed (LeftOut words) = left_out_line words
remark_line typed (Settings first second) =
    met_lines 1 (texts_of typed.first) first ++ met_lines 2 (texts_of typed.second) second
remark_line typed UsualRate = usual_rate_line
remark_line typed (FilledAtUsualRate frames) = filled_line frames ++ usual_rate_line
remark_line typed (CutShort missing) = cut_short_line missing
remark_line typed (Wave missing unsaid first second) = missing_line missing ++ wave_lines typed unsaid first second
remark_line typed (Inexact at) = refusal_line (Run (refusal.Inexact at))

-- what is told of words that are not UTF-8
abbrev pub not_utf8_text : List ℕ
not_utf8_text = codes "error: the words are not UTF-8"
    ++ (10 ∷ 10 ∷ codes "Usage: aes3 COMMAND [OPTIONS] < INPUT > OUTPUT")
    ++ (10 ∷ 10 ∷ codes "For more information, try '--help'.") ++ 10 ∷ []
