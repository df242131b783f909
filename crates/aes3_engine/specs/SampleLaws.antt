-- What becomes of samples on their way over a line.
use Rattle.std.specs.Prelude.{ℕ, ◌%◌, ◌^◌, ◌<◌, List, ◌≡◌}
use Rattle.std.specs.List.{flat_map, All}
use Rattle.aes3_cell.specs.declared.form.Form.{Form}
use Rattle.aes3_frame.specs.Files.{word_bytes, file_blocks}
use Rattle.aes3_frame.specs.Samples.{samples}
use Rattle.aes3_frame.specs.Sampled.{IsSample, filled}
use Rattle.aes3_lock.specs.Reports.{blocks}
use Rattle.aes3_input.specs.Inputs.{cells_of}
use Rattle.aes3_forms_samples.specs.declared.sample_format.SampleFormat.{SampleFormat}
use Rattle.aes3_forms_samples.specs.declared.sample_format.SampleFormat.TheVariants.{S32, S24, S24In32, S16}
use Rattle.aes3_forms_samples.specs.Formats.{narrowed}
use Rattle.aes3_forms_words.specs.declared.alsa_am824.Words.TheVariants.{Own}
use Rattle.aes3_status.specs.declared.change.Change.{Change}
use Rattle.aes3_lock_runs.specs.BlockRuns.{written_stream}
use Rattle.aes3_engine.specs.Sampling.{pcm_words}

-- the line that `encode` writes of what `from_pcm_words` writes of samples in a form, and the samples that `to_pcm`
-- writes of a line
abbrev pub line_of_pcm : SampleFormat → Form → Change → List ℕ → List ℕ
line_of_pcm pcm form change b = written_stream form (file_blocks (pcm_words pcm Own change b))

abbrev pub pcm_of_line : SampleFormat → Form → List ℕ → List ℕ
pcm_of_line pcm form b = narrowed pcm (samples (blocks (cells_of form b)))

-- a sample of 24 bits, of which all below those of the form are 0
abbrev pub IsSampleIn : SampleFormat → ℕ → Type 0
IsSampleIn S32 w = IsSample w
IsSampleIn S24 w = IsSample w
IsSampleIn S24In32 w = IsSample w
IsSampleIn S16 w = (w < 2 ^ 32) × (w % 2 ^ 16 ≡ 0)

-- such samples come back in their form, whatever the channel status, and zeros behind them up to the end of a block
abbrev pub SamplesComeBack : Type 0
SamplesComeBack =
    (pcm : SampleFormat) (form : Form) (change : Change) (words : List ℕ) → All (IsSampleIn pcm) words
    → pcm_of_line pcm form (line_of_pcm pcm form change (narrowed pcm (flat_map word_bytes words)))
    ≡ narrowed pcm (flat_map word_bytes (filled words))
