-- What a command line asks for, by what `clap` makes of its words.
use Rattle.std.specs.Prelude.{ℕ, Bool, List, [], ◌∷◌, ◌++◌, ◌≡◌, ◌≢◌, ◌⊎◌, Option, Some, None, codes, get_or, true}
use Rattle.std.specs.Prelude.{◌%◌, ◌-◌, false, length, nat_eq, nat_lt, replicate}
use Rattle.std.specs.List.{before_first, after_first}
use Rattle.std.specs.Prelude.{if◌then◌else◌, option_and_then, option_map, is_some, not, ◌&&◌, ◌||◌, ◌*◌, ◌==◌, take}
use Rattle.std.specs.Option.{option_map_or, option_or, unwrap_or}
use Rattle.std.specs.Str.{bytes_eq}
use Rattle.std.specs.Str.Parse.{digits_value, without_leading_plus}
use Rattle.clap.specs.ValueTests.{is_unsigned_in}
use Rattle.clap.specs.Faults.{fault_of}
use Rattle.clap.specs.Kinds.{IsAmong, Kinds}
use Rattle.clap.specs.Simple.{subcommand_of}
use Rattle.clap.specs.Walk.{Row, Text, all_of, first_of, one_of, rows_of}
use Rattle.clap.specs.Matches.{found_of}
use Rattle.clap.specs.declared.parser.matches.ArgMatches.{ArgMatches}
use Rattle.clap.specs.declared.error.kind.ErrorKind.{ErrorKind}
use Rattle.clap.specs.declared.error.kind.ErrorKind.TheVariants.{DisplayHelp, DisplayVersion, OutOfMemory}
use Rattle.aes3_cell.specs.declared.form.Form.{Form}
use Rattle.aes3_cell.specs.declared.form.Form.TheVariants as form
use Rattle.aes3_refusals.specs.declared.run_error.RunError.TheVariants.{BadStatusText, Inexact, Memory}
use Rattle.aes3_frame.specs.declared.fill.Fill.{Fill}
use Rattle.aes3_frame.specs.declared.fill.Fill.TheVariants.{Zero, Hold}
use Rattle.aes3_frame.specs.declared.block.Channel.{Channel}
use Rattle.aes3_frame.specs.declared.block.Channel.TheVariants.{First, Second}
use Rattle.aes3_frame.specs.declared.block.CarriedBits.{CarriedBits}
use Rattle.aes3_frame.specs.declared.block.CarriedBits.TheVariants.{Validity, User, Status}
use Rattle.aes3_status.specs.declared.change.Change.{Change}
use Rattle.aes3_status.specs.declared.setting.Settings.{Settings}
use Rattle.aes3_status.specs.Settings.{set_all}
use Rattle.aes3_status.specs.TakingAll.{takes_all}
use Rattle.aes3_status.specs.Choices.{choices}
use Rattle.aes3_status.specs.NamedSettings.{AreSettingsOf, IsSettingsFault}
use Rattle.aes3_status.specs.Untaken.{texts_of}
use Rattle.aes3_status.specs.declared.typed_settings.TypedSettings.{TypedSettings}
use Rattle.aes3_status.specs.declared.listed_settings.SettingsFault.{SettingsFault}
use Rattle.aes3_status.specs.declared.listed_settings.SettingsFault.TheVariants.{Unknown, TooMany}
use Rattle.aes3_status.specs.declared.detail.Detail.{Detail}
use Rattle.aes3_status.specs.declared.detail.Detail.TheVariants.{Plain, Place, Carried, Names}
use Rattle.aes3_status.specs.declared.lines.Lines.{Lines}
use Rattle.aes3_status.specs.declared.lines.Lines.TheVariants as lines
use Rattle.aes3_status.specs.declared.style.Notation.{Notation}
use Rattle.aes3_status.specs.declared.style.Notation.TheVariants as notation
use Rattle.aes3_status.specs.declared.style.Style.{Style}
use Rattle.aes3_forms_samples.specs.declared.sample_format.SampleFormat.{SampleFormat}
use Rattle.aes3_forms_samples.specs.declared.sample_format.SampleFormat.TheVariants as format
use Rattle.aes3_wave.specs.declared.channels.Channels.{Channels}
use Rattle.aes3_wave.specs.declared.channels.Mono.{Mono}
use Rattle.aes3_wave.specs.declared.channels.Mono.TheVariants as mono
use Rattle.aes3_wave.specs.declared.header_writing.Depth.{Depth}
use Rattle.aes3_wave.specs.declared.header_writing.Depth.TheVariants.{Sixteen, TwentyFour, ThirtyTwo}
use Rattle.aes3_forms_words.specs.declared.alsa_am824.Words.{Words}
use Rattle.aes3_forms_words.specs.declared.alsa_am824.Words.TheVariants as word_form
use Rattle.aes3_cli.specs.CommandLine.{command_line, most_cells, most_frames, most_seconds}
use Rattle.aes3_cli.specs.Options.{file_by, output_by}
use Rattle.aes3_cli.specs.Wording.{EndsWithUsage, usage_end, usage_of}
use Rattle.aes3_cli_arguments.specs.Explained.{AsksToExplain, IsExplanation}
use Rattle.aes3_cli_arguments.specs.StatusTexts.{status_in}
use Rattle.aes3_cli_jobs.specs.declared.job.Job.{Job}
use Rattle.aes3_cli_jobs.specs.declared.job.Job.TheVariants as job
use Rattle.aes3_cli_jobs.specs.declared.work.ReadWork.{ReadWork}
use Rattle.aes3_cli_jobs.specs.declared.work.ReadWork.TheVariants as read
use Rattle.aes3_cli_jobs.specs.declared.work.StreamWork.{StreamWork}
use Rattle.aes3_cli_jobs.specs.declared.work.StreamWork.TheVariants as stream
use Rattle.aes3_cli_arguments.specs.declared.layout.Octets.{Octets}
use Rattle.aes3_cli_arguments.specs.declared.misuse.Misuse.{Misuse}
use Rattle.aes3_cli_arguments.specs.declared.misuse.Misuse.TheVariants.{TwoForms, NoCellsPacked, TwoPeriods, NoRate}
use Rattle.aes3_cli_arguments.specs.declared.misuse.Misuse.TheVariants.{UnknownBits, UnknownFilling, FillsValidSamples, ExactAndOthers}
use Rattle.aes3_cli_arguments.specs.declared.misuse.Misuse.TheVariants.{MarkedUnfilled, MonoBesideChannels, TwoFiles}
use Rattle.aes3_cli_arguments.specs.declared.misuse.Misuse.TheVariants.{UnknownDepth, UnknownUse, PresetBesideUse, UnknownChannels, UnknownMono}
use Rattle.aes3_cli_arguments.specs.declared.preset.Beginning.{Beginning}
use Rattle.aes3_cli_arguments.specs.declared.preset.Beginning.TheVariants.{OfEachBlock, Unclaimed}
use Rattle.aes3_cli_arguments.specs.declared.misuse.Misuse.TheVariants.{TwoDetails, UnknownWords, UnknownFormat, UnknownPreset, UnknownRate}
use Rattle.aes3_cli_arguments.specs.declared.command_job.LineFault.{LineFault}
use Rattle.aes3_cli_arguments.specs.declared.command_job.LineFault.TheVariants as fault

-- the options of a command, by their names: the values that the words give them, or their defaults
abbrev pub Options : Type 0
Options = List Row

-- the command that stands in the words, with its options
abbrev pub command_in : List Text → Option (Text × Options)
command_in words = subcommand_of command_line words

-- why the definitions do not take the words: `--help` or `--version` stands in them, or a fault;
-- empty where they take them
abbrev pub faults_in : List Text → Kinds
faults_in words = fault_of command_line words

-- the definitions take the words, and the command `name` stands in them with these options
abbrev pub StandsIn : List Text → Text → Options → Type 0
StandsIn words name options =
    (faults_in words ≡ []) × (command_in words ≡ Some (name, options))

-- the options that a parse found
abbrev pub options_of : ArgMatches → Options
options_of matches = rows_of (found_of matches)

-- ---- values

-- the option is a flag that was given, one that was not, or none
abbrev pub MayBeFlag : Options → Text → Type 0
MayBeFlag options name = (one_of name options ≡ None)
    ⊎ ((one_of name options ≡ Some (codes "true")) ⊎ (one_of name options ≡ Some (codes "false")))

-- the flag stands
abbrev pub is_set : Options → Text → Bool
is_set options name =
    option_map_or (λ text. bytes_eq text (codes "true")) (one_of name options) false

-- the form of the cells that the flag speaks of
abbrev pub form_by : Options → Text → Form
form_by options name = if is_set options name then form.Packed else form.Text

-- the form of the cells that are read: raw octets are read as packed cells
abbrev pub input_by : Options → Form
input_by options = if is_set options (codes "raw-in") then form.Packed else form_by options (codes "packed-in")

-- what stands behind a line of channel status: `--more` tells the place too, and `--names` stands by itself
abbrev pub detail_by : Options → Detail
detail_by options = if is_set options (codes "more") then Carried
    else if is_set options (codes "at") then Place
    else if is_set options (codes "names") then Names else Plain

-- which reports get a line
abbrev pub lines_by : Options → Lines
lines_by options = if is_set options (codes "faults") then lines.Faults else lines.All

-- the number from 0 to 2^64 - 1 that the text writes, a plus before it or none
abbrev pub number_in : Text → Option ℕ
number_in text = if is_unsigned_in 0 18446744073709551615 text
    then Some (digits_value 10 (without_leading_plus text)) else None

-- the number at this place among the words
abbrev pub IsNumber : Options → Text → ℕ → Type 0
IsNumber options name n = option_and_then number_in (one_of name options) ≡ Some n

-- the option is a number within these bounds that was given, or none
abbrev pub MayBeWithin : ℕ → ℕ → Options → Text → Type 0
MayBeWithin least most options name = (one_of name options ≡ None)
    ⊎ ((text : Text) × (one_of name options ≡ Some text) × (is_unsigned_in least most text ≡ true))

-- and so of a number of frames a second
abbrev pub MayBeRate : Options → Text → Type 0
MayBeRate = MayBeWithin 1 most_frames

-- the number that the option gives, where it is given
abbrev pub number_by : Options → Text → Option ℕ
number_by options name = option_and_then number_in (one_of name options)

-- the bit that it gives
abbrev pub bit_by : Options → Text → Option Bool
bit_by options name = option_map (λ n. n == 1) (number_by options name)

-- how the lines of events are written: as words or JSON objects, with times where the number of frames a second is
-- given
abbrev pub notation_by : Options → Notation
notation_by options = if is_set options (codes "json") then notation.Json else notation.Words

abbrev pub rate_by : Options → Option ℕ
rate_by options = number_by options (codes "rate")

abbrev pub style_by : Options → Style
style_by options = record { notation = notation_by options; rate = rate_by options }

-- how many cells a frame has
abbrev pub frame_cells : ℕ
frame_cells = 128

-- after how many cells sums are told: so many, or so many seconds of so many frames
abbrev pub period_in : Option ℕ → Option ℕ → Option ℕ → Option ℕ
period_in (Some cells) seconds rate = Some cells
period_in None (Some seconds) (Some rate) = Some (seconds * rate * frame_cells)
period_in None (Some seconds) None = None
period_in None None rate = None

abbrev pub every_by : Options → Option ℕ
every_by options =
    period_in (number_by options (codes "every")) (number_by options (codes "every-seconds")) (rate_by options)

-- the bits of this name that subframes carry behind their audio
abbrev pub bits_in : Text → Option CarriedBits
bits_in text = if bytes_eq text (codes "user") then Some User
    else if bytes_eq text (codes "validity") then Some Validity
    else if bytes_eq text (codes "status") then Some Status
    else None

abbrev pub bits_by : Options → Option CarriedBits
bits_by options = option_and_then bits_in (first_of (codes "BITS") options)

-- the filling of this name
abbrev pub fill_in : Text → Option Fill
fill_in text = if bytes_eq text (codes "zero") then Some Zero
    else if bytes_eq text (codes "hold") then Some Hold
    else None

abbrev pub fill_by : Options → Option Fill
fill_by options = option_and_then fill_in (first_of (codes "fill") options)

-- the form of words of this name, and the one that the options give a block file: its own where none is named
abbrev pub words_in : Text → Option Words
words_in text = if bytes_eq text (codes "own") then Some word_form.Own
    else if bytes_eq text (codes "alsa") then Some word_form.Alsa
    else if bytes_eq text (codes "am824") then Some word_form.Am824
    else None

abbrev pub words_named : Options → Option Words
words_named options = option_and_then words_in (first_of (codes "words") options)

abbrev pub words_by : Options → Words
words_by options = unwrap_or (words_named options) word_form.Own

-- the form of samples of this name, and the one that the options give them: 32 bits where none is named
abbrev pub format_in : Text → Option SampleFormat
format_in text = if bytes_eq text (codes "s32") then Some format.S32
    else if bytes_eq text (codes "s24") then Some format.S24
    else if bytes_eq text (codes "s24in32") then Some format.S24In32
    else if bytes_eq text (codes "s16") then Some format.S16
    else None

abbrev pub format_named : Options → Option SampleFormat
format_named options = option_and_then format_in (first_of (codes "pcm") options)

abbrev pub format_by : Options → SampleFormat
format_by options = unwrap_or (format_named options) format.S32

-- the width of the samples of a WAV file by its name, and the one that the options give them: 24 bits where none is
-- named
abbrev pub depth_in : Text → Option Depth
depth_in text = if bytes_eq text (codes "16") then Some Sixteen
    else if bytes_eq text (codes "24") then Some TwentyFour
    else if bytes_eq text (codes "32") then Some ThirtyTwo
    else None

abbrev pub depth_named : Options → Option Depth
depth_named options = option_and_then depth_in (first_of (codes "bits") options)

abbrev pub depth_by : Options → Depth
depth_by options = unwrap_or (depth_named options) TwentyFour

-- whether the use of this name is professional, and the one for which the options ask a status of a header: consumer use
-- where none is named
abbrev pub use_in : Text → Option Bool
use_in text = if bytes_eq text (codes "consumer") then Some false
    else if bytes_eq text (codes "professional") then Some true
    else None

abbrev pub use_named : Options → Option Bool
use_named options = option_and_then use_in (first_of (codes "use") options)

abbrev pub is_professional : Options → Bool
is_professional options = unwrap_or (use_named options) false

-- which channels the only one of a WAV file is for by this name, and by the options: both where none are named
abbrev pub mono_in : Text → Option Mono
mono_in text = if bytes_eq text (codes "both") then Some mono.Both
    else if bytes_eq text (codes "first") then Some mono.First
    else None

abbrev pub mono_named : Options → Option Mono
mono_named options = option_and_then mono_in (first_of (codes "mono") options)

abbrev pub mono_by : Options → Mono
mono_by options = unwrap_or (mono_named options) mono.Both

-- the channel that has this number, from 1 on
abbrev pub channel_in : Text → Option ℕ
channel_in text = if is_unsigned_in 1 65535 text
    then Some (digits_value 10 (without_leading_plus text) - 1) else None

-- the channels whose numbers a text has, a comma between them
abbrev pub channels_of_two : Option ℕ → Option ℕ → Option Channels
channels_of_two (Some first) (Some second) = Some (record { first = first; second = Some second })
channels_of_two (Some first) None = None
channels_of_two None second = None

abbrev pub is_comma : ℕ → Bool
is_comma byte = byte == 44

abbrev pub channels_in : Text → Option Channels
channels_in text = channels_of_two (channel_in (before_first is_comma text)) (channel_in (after_first is_comma text))

abbrev pub channels_by : Options → Option Channels
channels_by options = option_and_then channels_in (first_of (codes "channels") options)

-- the number of a channel
abbrev pub number_of : Channel → ℕ
number_of First = 1
number_of Second = 2

-- ---- the status of a channel and what is set of it

-- the usual status of the use that a preset names (IEC 60958-3, AES3-2): for consumer use linear PCM, no copyright
-- asserted, no sampling frequency indicated, words of 24 bits; for professional use linear PCM, no emphasis, two
-- channels, words of 24 bits in which the auxiliary bits are audio
abbrev pub consumer_status : List ℕ
consumer_status = 4 ∷ 0 ∷ 0 ∷ 1 ∷ 11 ∷ replicate 19 0

abbrev pub professional_status : List ℕ
professional_status = 5 ∷ 8 ∷ 44 ∷ replicate 21 0

-- the status of samples that nothing is known of: consumer use, no copyright asserted, no sampling frequency indicated,
-- words of 24 bits at most
abbrev pub unknown_status : List ℕ
unknown_status = 4 ∷ 0 ∷ 0 ∷ 1 ∷ 1 ∷ replicate 19 0

-- the same where this is set of it: if that makes the use professional, all bytes are 0 before, since those for consumer
-- use mean something else then
abbrev pub unknown_status_for : Option Settings → List ℕ
unknown_status_for None = unknown_status
unknown_status_for (Some settings) =
    if nat_eq (get_or (set_all settings unknown_status) 0 0 % 2) 1 then replicate 24 0 else unknown_status

-- the status that a channel begins with where neither a text nor a preset gives one, and this is set of it
abbrev pub begun_with : Beginning → Option Settings → Option (List ℕ)
begun_with OfEachBlock settings = None
begun_with Unclaimed settings = Some (unknown_status_for settings)

abbrev pub preset_in : Text → Option (List ℕ)
preset_in text = if bytes_eq text (codes "consumer") then Some consumer_status
    else if bytes_eq text (codes "professional") then Some professional_status
    else None

abbrev pub preset_by : Options → Option (List ℕ)
preset_by options = option_and_then preset_in (first_of (codes "preset") options)

-- the status bytes that an option's text has; `other` where the option is left out
abbrev pub HasStatus : Option (List ℕ) → Option Text → Option (List ℕ) → Type 0
HasStatus other None bytes = bytes ≡ other
HasStatus other (Some text) bytes = (is_some bytes ≡ true) × (status_in text ≡ bytes)

-- the status that a channel begins with: that of the option's text, else that of the preset, else `other`
abbrev pub IsStatus : Option (List ℕ) → Options → Text → Option (List ℕ) → Type 0
IsStatus other options name bytes = HasStatus (option_or (preset_by options) other) (first_of name options) bytes

-- the setting that a sampling frequency in hertz stands for, or in thousands of them: some status has a code for each
abbrev pub rate_in : Text → Option Text
rate_in text = if bytes_eq text (codes "22050") then Some (codes "rate=22050")
    else if bytes_eq text (codes "22.05k") then Some (codes "rate=22050")
    else if bytes_eq text (codes "24000") then Some (codes "rate=24000")
    else if bytes_eq text (codes "24k") then Some (codes "rate=24000")
    else if bytes_eq text (codes "32000") then Some (codes "rate=32000")
    else if bytes_eq text (codes "32k") then Some (codes "rate=32000")
    else if bytes_eq text (codes "44100") then Some (codes "rate=44100")
    else if bytes_eq text (codes "44.1k") then Some (codes "rate=44100")
    else if bytes_eq text (codes "48000") then Some (codes "rate=48000")
    else if bytes_eq text (codes "48k") then Some (codes "rate=48000")
    else if bytes_eq text (codes "88200") then Some (codes "rate=88200")
    else if bytes_eq text (codes "88.2k") then Some (codes "rate=88200")
    else if bytes_eq text (codes "96000") then Some (codes "rate=96000")
    else if bytes_eq text (codes "96k") then Some (codes "rate=96000")
    else if bytes_eq text (codes "176400") then Some (codes "rate=176400")
    else if bytes_eq text (codes "176.4k") then Some (codes "rate=176400")
    else if bytes_eq text (codes "192000") then Some (codes "rate=192000")
    else if bytes_eq text (codes "192k") then Some (codes "rate=192000")
    else if bytes_eq text (codes "768000") then Some (codes "rate=768000")
    else if bytes_eq text (codes "768k") then Some (codes "rate=768000")
    else None

abbrev pub rate_named : Options → Option Text
rate_named options = option_and_then rate_in (first_of (codes "hz") options)

-- the texts that set a sampling frequency: the one that clears the rate, since professional status has a code for some
-- frequencies in byte 4 alone, and this one
abbrev pub rate_texts : Option Text → List Text
rate_texts None = []
rate_texts (Some rate) = codes "rate=not-indicated" ∷ rate ∷ []

-- the texts of an option, as they were typed, in their order; none where it is left out
abbrev pub texts_by : Options → Text → List Text
texts_by options name = unwrap_or (all_of name options) []

-- the texts that set fields of a channel, in the order in which they do: those for both channels, those of its own
-- option, and those that set the sampling frequency
unfoldable pub texts_for : Options → Text → List Text
texts_for options name = (texts_by options (codes "set") ++ texts_by options name) ++ rate_texts (rate_named options)

-- the settings that texts name; none where there are no texts
abbrev pub HaveSettings : List Text → Option Settings → Type 0
HaveSettings texts None = texts ≡ []
HaveSettings texts (Some settings) = (texts ≢ []) × AreSettingsOf texts settings

abbrev pub AreSettings : Options → Text → Option Settings → Type 0
AreSettings options name settings = HaveSettings (texts_for options name) settings

-- whether check bytes are written: where that is asked for, a preset is named, or a field is set
abbrev pub mends : Options → Option Settings → Option Settings → Bool
mends options first second =
    is_set options (codes "mend-check") || (is_some (preset_by options) || (is_some first || is_some second))

-- what the options change, where a channel without another status begins so
abbrev pub IsChange : Beginning → Options → Change → Type 0
IsChange beginning options change =
    IsStatus (begun_with beginning change.settings1) options (codes "status1") change.status1
    × IsStatus (begun_with beginning change.settings2) options (codes "status2") change.status2
    × AreSettings options (codes "set1") change.settings1
    × AreSettings options (codes "set2") change.settings2
    × (change.validity1 ≡ bit_by options (codes "valid1"))
    × (change.validity2 ≡ bit_by options (codes "valid2"))
    × (change.clear_user1 ≡ is_set options (codes "clear-user1"))
    × (change.clear_user2 ≡ is_set options (codes "clear-user2"))
    × (change.mend ≡ mends options change.settings1 change.settings2)

-- whether the status that a channel is given takes all that is set of it
abbrev pub takes_settings : Option (List ℕ) → Option Settings → Bool
takes_settings (Some status) (Some settings) = takes_all settings status
takes_settings (Some status) None = true
takes_settings None settings = true

abbrev pub takes_change : Change → Bool
takes_change change =
    takes_settings change.status1 change.settings1 && takes_settings change.status2 change.settings2

-- what the options of `from-pcm` change
abbrev pub IsSampleChange : Options → Change → Type 0
IsSampleChange = IsChange Unclaimed

-- what is set has to be taken, and is not
abbrev pub IsInexact : Options → Type 0
IsInexact options = (change : Change) × IsSampleChange options change
    × (is_set options (codes "exact") ≡ true) × (takes_change change ≡ false)

-- flags are flags among the options of a command, and numbers within their bounds
pub record AreTaken (options : Options) : Type 0 where
  pub packed_in : MayBeFlag options (codes "packed-in")
  pub raw_in : MayBeFlag options (codes "raw-in")
  pub packed_out : MayBeFlag options (codes "packed-out")
  pub lsb_first : MayBeFlag options (codes "lsb-first")
  pub faults : MayBeFlag options (codes "faults")
  pub gaps : MayBeFlag options (codes "gaps")
  pub json : MayBeFlag options (codes "json")
  pub rate : MayBeRate options (codes "rate")
  pub every : MayBeWithin 1 most_cells options (codes "every")
  pub every_seconds : MayBeWithin 1 most_seconds options (codes "every-seconds")
  pub changes : MayBeFlag options (codes "changes")
  pub at : MayBeFlag options (codes "at")
  pub more : MayBeFlag options (codes "more")
  pub names : MayBeFlag options (codes "names")
  pub valid : MayBeFlag options (codes "valid")
  pub marked : MayBeFlag options (codes "marked")
  pub exact : MayBeFlag options (codes "exact")
  pub mend_check : MayBeFlag options (codes "mend-check")
  pub valid1 : MayBeWithin 0 1 options (codes "valid1")
  pub valid2 : MayBeWithin 0 1 options (codes "valid2")
  pub clear_user1 : MayBeFlag options (codes "clear-user1")
  pub clear_user2 : MayBeFlag options (codes "clear-user2")

-- ---- jobs

-- the command of this name, with these options, asks for such a stream of blocks
abbrev pub AsksToStream : Text → Options → StreamWork → Type 0
AsksToStream name options stream.Normal = name ≡ codes "normal"
AsksToStream name options (stream.Cut first count) =
    (name ≡ codes "cut") × IsNumber options (codes "FROM") first × IsNumber options (codes "COUNT") count
AsksToStream name options (stream.Rewrite change exact) =
    (name ≡ codes "rewrite") × IsChange OfEachBlock options change × (exact ≡ is_set options (codes "exact"))

-- it asks for cells to be read so
abbrev pub AsksToRead : Text → Options → ReadWork → Type 0
AsksToRead name options (read.Decode form) = (name ≡ codes "decode") × (form ≡ words_by options)
AsksToRead name options (read.Check told) =
    (name ≡ codes "check") × (told ≡ lines_by options) × (is_set options (codes "gaps") ≡ false)
AsksToRead name options (read.Account told) =
    (name ≡ codes "check") × (told ≡ lines_by options) × (is_set options (codes "gaps") ≡ true)
AsksToRead name options (read.Watch style) =
    (name ≡ codes "watch") × (style ≡ style_by options) × (every_by options ≡ None)
AsksToRead name options (read.WatchSums style every) =
    (name ≡ codes "watch") × (style ≡ style_by options) × (every_by options ≡ Some every)
AsksToRead name options (read.Info style) = (name ≡ codes "info") × (style ≡ notation_by options)
AsksToRead name options (read.Show detail) =
    (name ≡ codes "show") × (detail ≡ detail_by options) × (is_set options (codes "changes") ≡ false)
AsksToRead name options (read.ShowChanges detail) =
    (name ≡ codes "show") × (detail ≡ detail_by options) × (is_set options (codes "changes") ≡ true)
AsksToRead name options read.Scan = name ≡ codes "scan"
AsksToRead name options (read.ToPcm pcm valid) =
    (name ≡ codes "to-pcm") × (pcm ≡ format_by options) × (valid ≡ is_set options (codes "valid"))
    × (fill_by options ≡ None) × (is_set options (codes "exact") ≡ false)
AsksToRead name options (read.ToExactPcm pcm) =
    (name ≡ codes "to-pcm") × (pcm ≡ format_by options) × (fill_by options ≡ None)
    × (is_set options (codes "exact") ≡ true)
AsksToRead name options (read.ToFilledPcm pcm fill marked) =
    (name ≡ codes "to-pcm") × (pcm ≡ format_by options) × (fill_by options ≡ Some fill)
    × (marked ≡ is_set options (codes "marked"))
AsksToRead name options (read.ToWav depth rate valid) =
    (name ≡ codes "to-wav") × (depth ≡ depth_by options) × (rate ≡ rate_by options)
    × (valid ≡ is_set options (codes "valid")) × (fill_by options ≡ None) × (is_set options (codes "exact") ≡ false)
AsksToRead name options (read.ToExactWav depth rate) =
    (name ≡ codes "to-wav") × (depth ≡ depth_by options) × (rate ≡ rate_by options) × (fill_by options ≡ None)
    × (is_set options (codes "exact") ≡ true)
AsksToRead name options (read.ToFilledWav depth rate fill marked) =
    (name ≡ codes "to-wav") × (depth ≡ depth_by options) × (rate ≡ rate_by options) × (fill_by options ≡ Some fill)
    × (marked ≡ is_set options (codes "marked"))
AsksToRead name options (read.ToBits bits channel) =
    (name ≡ codes "to-bits") × (bits_by options ≡ Some bits)
    × IsNumber options (codes "CHANNEL") (number_of channel)

-- it asks for the job
abbrev pub AsksFor : Text → Options → Job → Type 0
AsksFor name options (job.Encode output form) =
    (name ≡ codes "encode") × (output ≡ form_by options (codes "packed-out")) × (form ≡ words_by options)
AsksFor name options (job.Stream input output work) =
    (input ≡ input_by options) × (output ≡ form_by options (codes "packed-out")) × AsksToStream name options work
AsksFor name options (job.Read input work) = (input ≡ input_by options) × AsksToRead name options work
AsksFor name options (job.FromPcm pcm exact change form) =
    (name ≡ codes "from-pcm") × (pcm ≡ format_by options) × (exact ≡ is_set options (codes "exact"))
    × IsSampleChange options change × (form ≡ words_by options)
    × (exact ≡ true → takes_change change ≡ true)
AsksFor name options (job.FromWav channels single exact professional change form) =
    (name ≡ codes "from-wav") × (channels ≡ channels_by options) × (single ≡ mono_by options) × (exact ≡ is_set options (codes "exact"))
    × (professional ≡ is_professional options) × IsChange OfEachBlock options change × (form ≡ words_by options)

-- the definitions take the words, and the command that stands in them asks for the job
abbrev pub IsLineOf : List Text → Job → Type 0
IsLineOf words job = (name : Text) × (options : Options) × StandsIn words name options × AsksFor name options job

-- the words ask to explain nothing
abbrev pub AskNothing : List Text → Type 0
AskNothing words = (texts : List Text) → ¬ AsksToExplain words texts

-- the words ask for the job
abbrev pub IsJobOf : List Text → Job → Type 0
IsJobOf words job = AskNothing words × IsLineOf words job

-- ---- options that are misused

-- the cells that are read have two forms
abbrev pub has_two_forms : Options → Bool
has_two_forms options = is_set options (codes "raw-in") && is_set options (codes "packed-in")

-- the first of eight packed cells has a place, and no cells are packed
abbrev pub has_no_cells_packed : Options → Bool
has_no_cells_packed options = is_set options (codes "lsb-first") && (not (is_set options (codes "raw-in"))
    && (not (is_set options (codes "packed-in")) && not (is_set options (codes "packed-out"))))

-- sums are told after cells and after seconds
abbrev pub has_two_periods : Options → Bool
has_two_periods options =
    is_some (number_by options (codes "every")) && is_some (number_by options (codes "every-seconds"))

-- they are told after seconds of which nothing says how many cells one has
abbrev pub has_no_rate : Options → Bool
has_no_rate options = is_some (number_by options (codes "every-seconds")) && not (is_some (rate_by options))

-- bits are named that there are none of
abbrev pub has_unknown_bits : Options → Bool
has_unknown_bits options =
    option_map_or (λ text. not (is_some (bits_in text))) (first_of (codes "BITS") options) false

-- a filling is named that there is none of
abbrev pub has_unknown_filling : Options → Bool
has_unknown_filling options =
    option_map_or (λ text. not (is_some (fill_in text))) (first_of (codes "fill") options) false

-- time is filled between samples of which those that are not valid are silenced
abbrev pub fills_valid_samples : Options → Bool
fills_valid_samples options = is_some (fill_by options) && is_set options (codes "valid")

-- marked blocks are to be given, and nothing says what fills them
abbrev pub has_marked_unfilled : Options → Bool
has_marked_unfilled options = is_set options (codes "marked") && not (is_some (fill_by options))

-- samples are to be given as they are, and others in the place of some
abbrev pub has_exact_and_others : Options → Bool
has_exact_and_others options =
    is_set options (codes "exact") && (is_some (fill_by options) || is_set options (codes "valid"))

-- words of codes are to stand behind a line of channel status, and the place of its block too
abbrev pub has_two_details : Options → Bool
has_two_details options =
    is_set options (codes "names") && (is_set options (codes "at") || is_set options (codes "more"))

-- a form of words is named that there is none of
abbrev pub has_unknown_words : Options → Bool
has_unknown_words options =
    option_map_or (λ text. not (is_some (words_in text))) (first_of (codes "words") options) false

-- a form of samples is named that there is none of
abbrev pub has_unknown_format : Options → Bool
has_unknown_format options =
    option_map_or (λ text. not (is_some (format_in text))) (first_of (codes "pcm") options) false

-- a preset is named that there is none of
abbrev pub has_unknown_preset : Options → Bool
has_unknown_preset options =
    option_map_or (λ text. not (is_some (preset_in text))) (first_of (codes "preset") options) false

-- a sampling frequency is named that no status has a code for
abbrev pub has_unknown_rate : Options → Bool
has_unknown_rate options =
    option_map_or (λ text. not (is_some (rate_in text))) (first_of (codes "hz") options) false

-- a width is named that there is none of
abbrev pub has_unknown_depth : Options → Bool
has_unknown_depth options =
    option_map_or (λ text. not (is_some (depth_in text))) (first_of (codes "bits") options) false

-- a use is named that there is none of
abbrev pub has_unknown_use : Options → Bool
has_unknown_use options =
    option_map_or (λ text. not (is_some (use_in text))) (first_of (codes "use") options) false

-- a use is named for the status that a header asks for, and a preset gives another status
abbrev pub has_preset_beside_use : Options → Bool
has_preset_beside_use options = is_some (use_named options) && is_some (preset_by options)

-- channels are chosen by a text that names no two of them
abbrev pub has_unknown_channels : Options → Bool
has_unknown_channels options =
    option_map_or (λ text. not (is_some (channels_in text))) (first_of (codes "channels") options) false

-- channels are named for the only one that there are none of
abbrev pub has_unknown_mono : Options → Bool
has_unknown_mono options =
    option_map_or (λ text. not (is_some (mono_in text))) (first_of (codes "mono") options) false

-- channels are named for the only one of a WAV file, and two are chosen
abbrev pub has_mono_beside_channels : Options → Bool
has_mono_beside_channels options = is_some (mono_named options) && is_some (channels_by options)

-- the file that is read is named twice
abbrev pub has_two_files : Options → Bool
has_two_files options = is_some (first_of (codes "FILE") options) && is_some (first_of (codes "input") options)

-- what is wrong with options, of more the first
abbrev pub misuse_by : Options → Option Misuse
misuse_by options =
    if has_two_forms options then Some TwoForms
    else if has_no_cells_packed options then Some NoCellsPacked
    else if has_two_periods options then Some TwoPeriods
    else if has_no_rate options then Some NoRate
    else if has_unknown_bits options then Some UnknownBits
    else if has_unknown_filling options then Some UnknownFilling
    else if fills_valid_samples options then Some FillsValidSamples
    else if has_marked_unfilled options then Some MarkedUnfilled
    else if has_exact_and_others options then Some ExactAndOthers
    else if has_two_details options then Some TwoDetails
    else if has_unknown_words options then Some UnknownWords
    else if has_unknown_format options then Some UnknownFormat
    else if has_unknown_preset options then Some UnknownPreset
    else if has_unknown_rate options then Some UnknownRate
    else if has_unknown_depth options then Some UnknownDepth
    else if has_unknown_use options then Some UnknownUse
    else if has_preset_beside_use options then Some PresetBesideUse
    else if has_unknown_channels options then Some UnknownChannels
    else if has_unknown_mono options then Some UnknownMono
    else if has_mono_beside_channels options then Some MonoBesideChannels
    else if has_two_files options then Some TwoFiles
    else None

-- ---- settings as they were typed

-- the options type these for each channel: all of them where they are settings, which are 32 at most
abbrev pub AreTyped : Options → TypedSettings → Type 0
AreTyped options typed = (texts_of typed.first ≡ take 32 (texts_for options (codes "set1")))
    × (texts_of typed.second ≡ take 32 (texts_for options (codes "set2")))

-- the command that stands in the words has these
abbrev pub HaveTyped : List Text → TypedSettings → Type 0
HaveTyped words typed = (name : Text) × (options : Options) × StandsIn words name options × AreTyped options typed

-- ---- the octets of packed cells

-- how the options lay out the octets; none of them are misused
abbrev pub AreOctets : Options → Octets → Type 0
AreOctets options octets = (octets.raw_in ≡ is_set options (codes "raw-in"))
    × (octets.lsb_first ≡ is_set options (codes "lsb-first")) × (misuse_by options ≡ None)

-- the command that stands in the words has octets that are laid out so
abbrev pub HaveOctets : List Text → Octets → Type 0
HaveOctets words octets = (name : Text) × (options : Options) × StandsIn words name options
    × AreOctets options octets

-- ---- the input

-- the command that stands in the words reads this file, in place of standard input
abbrev pub ReadsFile : List Text → Text → Type 0
ReadsFile words file = (name : Text) × (options : Options) × StandsIn words name options
    × (file_by options ≡ Some file)

-- the command that stands in the words writes this file, in place of standard output
abbrev pub WritesFile : List Text → Text → Type 0
WritesFile words file = (name : Text) × (options : Options) × StandsIn words name options
    × (output_by options ≡ Some file)

-- ---- refusals

-- the option is given with a text that is no status
abbrev pub IsBadStatus : Options → Text → Type 0
IsBadStatus options name = (text : Text) × (first_of name options ≡ Some text)
    × (status_in text ≡ None)

-- one of the status texts among the options is none
abbrev pub HasBadStatus : Options → Type 0
HasBadStatus options =
    IsBadStatus options (codes "status1") ⊎ IsBadStatus options (codes "status2")

-- what the options set of both channels can be set
abbrev pub HaveAllSettings : Options → Type 0
HaveAllSettings options = ((settings : Option Settings) × AreSettings options (codes "set1") settings)
    × ((settings : Option Settings) × AreSettings options (codes "set2") settings)

-- a status text is none, and nothing else is wrong
abbrev pub IsStatusRefused : Options → Type 0
IsStatusRefused options = HasBadStatus options × HaveAllSettings options

-- a text is no setting
unfoldable pub value_text : Text → Text
value_text text = codes "error: invalid value '" ++ text ++ codes "' for "

-- the option `--name` and the end of the line
unfoldable pub option_text : Text → Text
option_text name = codes "'--" ++ name ++ (codes " <NAME=WORD>'" ++ 10 ∷ [])

-- a text of the option is no setting, and what could stand in place of it
unfoldable pub invalid_text : Text → Text → Text
invalid_text name text = value_text text ++ option_text name ++ choices text

-- more texts of it than may stand
unfoldable pub many_text : Text → Text
many_text name = codes "error: more than 32 of '--" ++ name ++ (codes " <NAME=WORD>'" ++ 10 ∷ [])

-- why texts of the option `--name` have no settings
abbrev pub fault_text : Text → List Text → SettingsFault → Text
fault_text name texts (Unknown at) = invalid_text name (get_or texts at [])
fault_text name texts TooMany = many_text name

-- what is told of that, where the command is called by `usage`
unfoldable pub refused_text : Text → Text → List Text → SettingsFault → Text
refused_text name usage texts why =
    fault_text name texts why ++ (10 ∷ codes "Usage: ") ++ usage
    ++ (10 ∷ 10 ∷ codes "For more information, try '--help'." ++ 10 ∷ [])

-- the option that has the text which is no setting: that for both channels, or the channel's own
abbrev pub option_at : Options → Text → SettingsFault → Text
option_at options name (Unknown at) =
    if nat_lt at (length (texts_by options (codes "set"))) then codes "set" else name
option_at options name TooMany = name

-- the texts for a channel have no settings, and this text tells why
abbrev pub TellsBadSettings : Options → Text → Text → Text → Type 0
TellsBadSettings options name usage text = (why : SettingsFault)
    × IsSettingsFault (texts_for options name) why
    × (text ≡ refused_text (option_at options name why) usage (texts_for options name) why)

-- the texts for one of the channels have none
abbrev pub TellsABadSetting : Options → Text → Text → Type 0
TellsABadSetting options usage text =
    TellsBadSettings options (codes "set1") usage text ⊎ TellsBadSettings options (codes "set2") usage text

-- the commands that take the status of a channel
abbrev pub TakesStatus : Text → Type 0
TakesStatus name = (name ≡ codes "rewrite") ⊎ ((name ≡ codes "from-pcm") ⊎ (name ≡ codes "from-wav"))

-- how they are called
abbrev pub rewrite_usage : Text
rewrite_usage = codes "aes3 rewrite [OPTIONS] [FILE] > CELLS"

abbrev pub from_pcm_usage : Text
from_pcm_usage = codes "aes3 from-pcm [OPTIONS] [FILE] > BLOCKFILE"

abbrev pub from_wav_usage : Text
from_wav_usage = codes "aes3 from-wav [OPTIONS] [FILE] > BLOCKFILE"

-- one of their options is a setting that is none, and this text tells why
abbrev pub TellsABadOption : Text → Options → Text → Type 0
TellsABadOption name options text =
    ((name ≡ codes "rewrite") × TellsABadSetting options rewrite_usage text)
    ⊎ (((name ≡ codes "from-pcm") × TellsABadSetting options from_pcm_usage text)
    ⊎ ((name ≡ codes "from-wav") × TellsABadSetting options from_wav_usage text))

-- the line that says what is wrong with options
abbrev pub misuse_line : Misuse → Text
misuse_line TwoForms = codes "error: the argument '--raw-in' cannot be used with '--packed-in'"
misuse_line NoCellsPacked =
    codes "error: the argument '--lsb-first' needs '--packed-in', '--raw-in' or '--packed-out'"
misuse_line TwoPeriods =
    codes "error: the argument '--every <CELLS>' cannot be used with '--every-seconds <N>'"
misuse_line NoRate = codes "error: the argument '--every-seconds <N>' needs '--rate <HZ>'"
misuse_line UnknownBits = codes "error: invalid value for '<BITS>': it is 'user', 'validity' or 'status'"
misuse_line UnknownFilling = codes "error: invalid value for '--fill <zero|hold>': it is 'zero' or 'hold'"
misuse_line FillsValidSamples = codes "error: the argument '--fill <zero|hold>' cannot be used with '--valid'"
misuse_line MarkedUnfilled = codes "error: the argument '--marked' needs '--fill <zero|hold>'"
misuse_line ExactAndOthers =
    codes "error: the argument '--exact' cannot be used with '--valid' or '--fill <zero|hold>'"
misuse_line TwoDetails = codes "error: the argument '--names' cannot be used with '--at' or '--more'"
misuse_line UnknownWords =
    codes "error: invalid value for '--words <own|alsa|am824>': it is 'own', 'alsa' or 'am824'"
misuse_line UnknownPreset =
    codes "error: invalid value for '--preset <consumer|professional>': it is 'consumer' or 'professional'"
misuse_line UnknownRate = codes "error: invalid value for '--rate <HZ>': a status has a code for 22050, 24000, 32000, 44100, 48000, 88200, 96000, 176400, 192000 or 768000, also as 48k"
misuse_line UnknownDepth = codes "error: invalid value for '--bits <16|24|32>': it is '16', '24' or '32'"
misuse_line UnknownUse =
    codes "error: invalid value for '--use <consumer|professional>': it is 'consumer' or 'professional'"
misuse_line PresetBesideUse = codes
    "error: the argument '--use <consumer|professional>' cannot be used with '--preset <consumer|professional>'"
misuse_line UnknownChannels = codes
    "error: invalid value for '--channels <A,B>': it is two numbers from 1 on with a comma between them, as '1,2'"
misuse_line UnknownMono = codes "error: invalid value for '--mono <both|first>': it is 'both' or 'first'"
misuse_line MonoBesideChannels =
    codes "error: the argument '--mono <both|first>' cannot be used with '--channels <A,B>'"
misuse_line TwoFiles = codes "error: the argument '--input <FILE>' cannot be used with '[FILE]'"
misuse_line UnknownFormat =
    codes "error: invalid value for '--pcm <s32|s24|s24in32|s16>': it is 's32', 's24', 's24in32' or 's16'"

-- what is told of that, where the command is called by `usage`
abbrev pub misuse_text : Text → Misuse → Text
misuse_text usage misuse = misuse_line misuse ++ usage_end usage

-- the options of the command of this name are misused, and this text tells how, with its usage
abbrev pub TellsAMisuse : Text → Options → Text → Type 0
TellsAMisuse name options text = (misuse : Misuse) × (misuse_by options ≡ Some misuse)
    × (text ≡ misuse_text (usage_of name) misuse)

-- one of the options is a setting that is none, or they are misused, and this text tells why
abbrev pub TellsBadOptions : Text → Options → Text → Type 0
TellsBadOptions name options text = TellsABadOption name options text ⊎ TellsAMisuse name options text

-- the definitions do not take the words, and ask for no help and no version
abbrev pub IsNotTaken : List Text → Type 0
IsNotTaken words = (kind : _) × IsAmong kind (faults_in words) × (kind ≢ DisplayHelp) × (kind ≢ DisplayVersion)

-- the first of the words, with which a command begins; empty where there is none
abbrev pub first_word : List Text → Text
first_word words = get_or words 0 []

-- this text ends with the usage of the command that the words begin with, or of the program where they begin with none
abbrev pub EndsWithUsageOf : List Text → Text → Type 0
EndsWithUsageOf words text = EndsWithUsage (usage_of (first_word words)) text

-- the words ask what refusals mean, and that is told
abbrev pub IsExplained : List Text → LineFault → Type 0
IsExplained words told = (texts : List Text) × AsksToExplain words texts × IsExplanation texts told

-- why the words are no job, where they ask to explain nothing
abbrev pub IsLineFaultOf : List Text → LineFault → Type 0
IsLineFaultOf words (fault.Usage text) = (IsNotTaken words × EndsWithUsageOf words text.bytes.items)
    ⊎ ((name : Text) × (options : Options) × StandsIn words name options
    × TellsBadOptions name options text.bytes.items)
IsLineFaultOf words (fault.Help text) = IsAmong DisplayHelp (faults_in words) ⊎ IsAmong DisplayVersion (faults_in words)
IsLineFaultOf words (fault.Refused error) =
    (error ≡ Memory) ⊎ (((error ≡ BadStatusText) × ((name : Text) × (options : Options)
    × StandsIn words name options × TakesStatus name × IsStatusRefused options))
    ⊎ ((error ≡ Inexact 0) × ((options : Options) × StandsIn words (codes "from-pcm") options × IsInexact options)))

-- why the words are no job: that is explained which they ask to explain, or else they have a fault
abbrev pub IsFaultOf : List Text → LineFault → Type 0
IsFaultOf words told = IsExplained words told
    ⊎ (AskNothing words × IsLineFaultOf words told)

-- what is told of an error of this kind in the words
abbrev pub Tells : List Text → ErrorKind → LineFault → Type 0
Tells words kind (fault.Usage text) = (kind ≢ OutOfMemory) × (kind ≢ DisplayHelp) × (kind ≢ DisplayVersion)
    × EndsWithUsageOf words text.bytes.items
Tells words kind (fault.Help text) = (kind ≡ DisplayHelp) ⊎ (kind ≡ DisplayVersion)
Tells words kind (fault.Refused error) = error ≡ Memory

-- a text with the usage of the command that the words begin with; or memory was refused
abbrev pub TellsUsage : List Text → LineFault → Type 0
TellsUsage words (fault.Usage text) = EndsWithUsageOf words text.bytes.items
TellsUsage words (fault.Help text) = ⊥
TellsUsage words (fault.Refused error) = error ≡ Memory

-- what is told of settings that are none
abbrev pub TellsSettings : Text → LineFault → Type 0
TellsSettings told (fault.Usage text) = text.bytes.items ≡ told
TellsSettings told (fault.Help text) = ⊥
TellsSettings told (fault.Refused error) = error ≡ Memory

-- why an option's texts give no settings
abbrev pub IsSettingsFaultOf : Options → Text → Text → LineFault → Type 0
IsSettingsFaultOf options name usage (fault.Usage text) = TellsBadSettings options name usage text.bytes.items
IsSettingsFaultOf options name usage (fault.Help text) = ⊥
IsSettingsFaultOf options name usage (fault.Refused error) = error ≡ Memory

-- why the options give no change
abbrev pub IsChangeFaultOf : Options → Text → LineFault → Type 0
IsChangeFaultOf options usage (fault.Usage text) = TellsABadSetting options usage text.bytes.items
IsChangeFaultOf options usage (fault.Help text) = ⊥
IsChangeFaultOf options usage (fault.Refused error) =
    (error ≡ Memory) ⊎ ((error ≡ BadStatusText) × IsStatusRefused options)

-- why the options of `from-pcm` give no job: they give no change, or one that leaves out a setting
abbrev pub IsSampleFaultOf : Options → LineFault → Type 0
IsSampleFaultOf options told = IsChangeFaultOf options from_pcm_usage told
    ⊎ ((told ≡ fault.Refused (Inexact 0)) × IsInexact options)

-- the words are taken and have a bad status or bad settings, or leave out a setting
abbrev pub IsBadOptionOf : Text → Options → LineFault → Type 0
IsBadOptionOf name options told =
    ((name ≡ codes "rewrite") × IsChangeFaultOf options rewrite_usage told)
    ⊎ (((name ≡ codes "from-pcm") × IsSampleFaultOf options told)
    ⊎ ((name ≡ codes "from-wav") × IsChangeFaultOf options from_wav_usage told))

-- what is told of options of the command of this name that are misused; or memory was refused
abbrev pub TellsMisuse : Text → Misuse → LineFault → Type 0
TellsMisuse name misuse (fault.Usage text) = text.bytes.items ≡ misuse_text (usage_of name) misuse
TellsMisuse name misuse (fault.Help text) = ⊥
TellsMisuse name misuse (fault.Refused error) = error ≡ Memory

-- the options are misused, and that is told
abbrev pub IsMisuseOf : Text → Options → LineFault → Type 0
IsMisuseOf name options told = (misuse : Misuse) × (misuse_by options ≡ Some misuse) × TellsMisuse name misuse told

-- the words are taken, and an option is wrong or they are misused; or memory was refused
abbrev pub AreBadOptionsOf : Text → Options → LineFault → Type 0
AreBadOptionsOf name options told =
    IsBadOptionOf name options told ⊎ (IsMisuseOf name options told ⊎ (told ≡ fault.Refused Memory))
