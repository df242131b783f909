-- What `--explain` tells.
use Rattle.std.specs.Prelude.{ℕ, Bool, List, [], ◌∷◌, ◌++◌, ◌≡◌, ◌<◌, ◌≤◌, ◌==◌, ◌⊎◌, if◌then◌else◌, codes, decimal}
use Rattle.std.specs.Prelude.{false}
use Rattle.std.specs.Str.{bytes_eq}
use Rattle.clap.specs.Walk.{Text}
use Rattle.aes3_refusals.specs.declared.run_error.RunError.TheVariants.{Memory}
use Rattle.aes3_cli_arguments.specs.declared.command_job.LineFault.{LineFault}
use Rattle.aes3_cli_arguments.specs.declared.command_job.LineFault.TheVariants as fault

-- the text writes the number of a refusal, from 1 to 15
abbrev pub IsRefusalNumber : Text → ℕ → Type 0
IsRefusalNumber text n = (0 < n) × (n ≤ 15) × (text ≡ decimal n)

-- the words ask what refusals mean
abbrev pub asks_to_explain : List Text → Bool
asks_to_explain [] = false
asks_to_explain (word ∷ words) = bytes_eq word (codes "--explain")

-- they do, with these texts behind it; or with this one behind a sign in the same word, which stands alone
abbrev pub AsksToExplain : List Text → List Text → Type 0
AsksToExplain words texts = (words ≡ codes "--explain" ∷ texts)
    ⊎ ((number : Text) × (words ≡ (codes "--explain=" ++ number) ∷ []) × (texts ≡ number ∷ []))

-- these texts can be explained: none, or the number of a refusal
abbrev pub CanBeExplained : List Text → Type 0
CanBeExplained [] = Unit {0}
CanBeExplained (text ∷ texts) = (texts ≡ []) × ((n : ℕ) × IsRefusalNumber text n)

-- what they are told
abbrev pub IsExplanation : List Text → LineFault → Type 0
IsExplanation texts (fault.Usage text) = ¬ CanBeExplained texts
IsExplanation texts (fault.Help text) = CanBeExplained texts
IsExplanation texts (fault.Refused error) = error ≡ Memory

-- what to do about the refusal of this number
abbrev pub advice_of : ℕ → Text
advice_of n =
    if n == 1 then codes "packed cells need `--packed-in`; a block file is for `aes3 encode`"
    else if n == 2 then codes "cut or pad a block file to a multiple of 1,536 bytes, samples to whole frames"
    else if n == 3 then codes "ALSA's words need `--words alsa`; in other words set these bits to 0"
    else if n == 4 then codes "write the lowest byte of each word first, and the sample in bits 4 to 27"
    else if n == 5 then codes "is it a folder, is it closed, or is the disk broken?"
    else if n == 6 then codes "make room on the disk; nothing is wrong if the reader of the output ended early, as `head` does"
    else if n == 7 then codes "start a new run for the rest"
    else if n == 8 then codes "it needs 2 MB"
    else if n == 9 then codes "`--status1` and `--status2` take 24 bytes, two digits each"
    else if n == 10 then codes
    "the last octet counts the unused cells before it, 0 to 7, and these are 0; if it is missing, use `--raw-in`"
    else if n == 11 then codes "leave out `--exact` to drop these bits, or make samples of 24 bits first (`sox IN -b 24 OUT`)"
    else if n == 12 then codes
    "`aes3 from-wav` reads a WAV file; `sox FILE -t s32 -c 2 - | aes3 from-pcm` reads others"
    else if n == 13 then codes
    "leave out `--exact` to drop the bits or the setting, or set first what the setting needs (`greatest=24` before `word=24`)"
    else if n == 14 then codes
    "`sox FILE -b 24 -e signed NEW.wav` converts most WAV files to one that can be read"
    else if n == 15 then codes "name two of its channels, counted from 1, as `--channels 1,1`"
    else []
