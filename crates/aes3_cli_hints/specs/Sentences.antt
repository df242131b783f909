-- What is told at a terminal: before a job, and of a refusal.
use Rattle.std.specs.Prelude.{ℕ, Bool, List, [], ◌∷◌, ◌++◌, Option, ◌≡◌, ◌⊎◌, ◌&&◌, if◌then◌else◌, codes}
use Rattle.std.specs.Prelude.{IsTrue}
use Rattle.std.specs.List.{list_any}
use Rattle.std.specs.Str.{bytes_eq}
use Rattle.aes3_cell.specs.Ends.{Grew}
use Rattle.aes3_cli_jobs.specs.Refusals.{number_of_refusal}
use Rattle.aes3_cli_jobs.specs.declared.wave_refusal.Refusal.{Refusal}
use Rattle.aes3_cli_arguments.specs.Explained.{advice_of}
use Rattle.aes3_cli_hints.specs.declared.hints.Terminals.{Terminals}
use Rattle.aes3_cli_jobs.specs.Forms.{writes_packed}
use Rattle.aes3_cli_jobs.specs.declared.job.Job.{Job}

-- what is told before a job where standard input, or output, is a terminal or isn't
abbrev pub reads_hint : Bool → List ℕ
reads_hint terminal = if terminal
    then codes "aes3: reading from the terminal until Ctrl-D; to read a file, use < FILE" ++ 10 ∷ [] else []

abbrev pub writes_hint : Bool → Job → List ℕ
writes_hint terminal job = if terminal && writes_packed job
    then codes "aes3: writing packed cells to the terminal; to write a file, use > FILE" ++ 10 ∷ [] else []

abbrev pub greeting : Terminals → Job → List ℕ
greeting terminals job = reads_hint terminals.input ++ writes_hint terminals.output job

-- what can be told to do by what an input looks like, or where it is a file
abbrev pub told_texts : List (List ℕ)
told_texts = codes "this is a WAV file: `aes3 from-wav` makes a block file of it"
    ∷ codes "this is a RIFX file: `sox FILE -t s32 -c 2 - | aes3 from-pcm` takes its samples"
    ∷ codes "this is an AIFF file: `sox FILE -t s32 -c 2 - | aes3 from-pcm` takes its samples"
    ∷ codes "this is a Wave64 file: `sox FILE -t s32 -c 2 - | aes3 from-pcm` takes its samples"
    ∷ codes "this is a FLAC file: `sox FILE -t s32 -c 2 - | aes3 from-pcm` takes its samples"
    ∷ codes "this is a CAF file: `sox FILE -t s32 -c 2 - | aes3 from-pcm` takes its samples"
    ∷ codes "this is an Ogg file: `sox FILE -t s32 -c 2 - | aes3 from-pcm` takes its samples"
    ∷ codes "this is an MP3 file: `sox FILE -t s32 -c 2 - | aes3 from-pcm` takes its samples"
    ∷ codes "this is an AU file: `sox FILE -t s32 -c 2 - | aes3 from-pcm` takes its samples"
    ∷ codes "this is an MPEG-4 file: `ffmpeg -i FILE -ac 2 -f s32le - | aes3 from-pcm` takes its samples"
    ∷ codes
    "this is a value change dump: `transitions.py --signal NAME FILE | aes3-cells` makes cells of it, with the script that `man aes3-cells` names"
    ∷ codes "this is a program"
    ∷ codes "this looks like a session of sigrok: `sigrok-cli -i FILE -O binary | aes3-cells` makes cells of it"
    ∷ codes "these look like samples of a logic analyser: `aes3-cells < FILE` makes cells of them"
    ∷ codes "this file is compressed: unpack it first"
    ∷ codes "this looks like a block file: `aes3 encode` makes cells of it"
    ∷ codes "the text begins with a byte order mark: save it as ASCII"
    ∷ codes "these look like packed cells: try `--packed-in`"
    ∷ codes "if these are packed cells, try `--packed-in`"
    ∷ codes "these look like packed cells: try `--packed-in --lsb-first`"
    ∷ codes "these look like packed cells: `aes3 decode --packed-in` makes a block file of them"
    ∷ codes "these cells lack the last octet, which counts unused cells: try `--raw-in`"
    ∷ codes "these look like samples of 16 bits: try `--pcm s16`"
    ∷ codes "these look like samples of 24 bits in 3 bytes: try `--pcm s24`"
    ∷ codes "these look like samples of 24 bits in 4 bytes: try `--pcm s24in32`"
    ∷ codes "these look like samples of 32 bits: leave `--pcm` out"
    ∷ codes "the file is cut short: fetch or write it again"
    ∷ codes "if these are samples without a header, `aes3 from-pcm` reads them"
    ∷ codes "the input is empty"
    ∷ codes "these are cells as text: leave `--packed-in` out"
    ∷ codes "these are cells as text: `aes3 decode` makes a block file of them"
    ∷ codes "check that the file is there, that you may read it, and that it is no folder" ∷ []

abbrev pub is_told : List ℕ → Bool
is_told text = list_any (bytes_eq text) told_texts

-- a sentence with this advice was told: what was refused, and what to do
pub record ExplainedBy (advice : List ℕ) (old new : Option (List ℕ)) : Type 0 where
  pub what : List ℕ
  pub sentence : Grew old new (codes "aes3: " ++ what ++ advice ++ 10 ∷ [])

-- with the advice that is always told of this refusal, or with one of these
pub record Explained (error : Refusal) (old new : Option (List ℕ)) : Type 0 where
  pub advice : List ℕ
  pub fits : (advice ≡ advice_of (number_of_refusal error)) ⊎ IsTrue (is_told advice)
  pub told : ExplainedBy advice old new
