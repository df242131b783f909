-- Cells as a WAV file: the header of the samples of their whole blocks, and these samples.
use Rattle.std.specs.Prelude.{ℕ, List, [], ◌∷◌, ◌++◌, Bool, Option, Some, None, ◌≡◌, true, false}
use Rattle.std.specs.Option.{option_or}
use Rattle.std.specs.Prelude.{if◌then◌else◌, unwrap_or}
use Rattle.aes3_level.specs.declared.level.Level.{Level}
use Rattle.aes3_cell.specs.declared.form.Form.{Form}
use Rattle.aes3_frame.specs.declared.fill.Fill.{Fill}
use Rattle.aes3_frame.specs.declared.block.Channel.TheVariants.{First}
use Rattle.aes3_frame.specs.Samples.{samples}
use Rattle.aes3_frame.specs.Statuses.{status_of}
use Rattle.aes3_input.specs.Driving.{over_cells}
use Rattle.aes3_input.specs.Inputs.{cells_of}
use Rattle.aes3_input.specs.Running.{Promise}
use Rattle.aes3_lock.specs.declared.report.Report.{Report}
use Rattle.aes3_lock.specs.declared.report.Report.TheVariants.{Whole, Marked, Fault, Unfinished}
use Rattle.aes3_lock.specs.Reports.{blocks, decided, reports, wholes}
use Rattle.aes3_engine.specs.ExactSamples.{exact_samples, first_unfit}
use Rattle.aes3_engine.specs.FillRuns.{IsFilled}
use Rattle.aes3_engine.specs.Filling.{filled, given, placed}
use Rattle.aes3_engine.specs.ValidSamples.{valid_samples}
use Rattle.aes3_forms_samples.specs.declared.sample_format.SampleFormat.{SampleFormat}
use Rattle.aes3_forms_samples.specs.declared.sample_format.SampleFormat.TheVariants.{S16, S24, S32}
use Rattle.aes3_forms_samples.specs.Formats.{narrowed}
use Rattle.aes3_lock_runs.specs.BlockRuns.{decided_blocks}
use Rattle.aes3_lock_runs.specs.ReportRuns.{counts_of}
use Rattle.aes3_wave.specs.declared.header_writing.Depth.{Depth}
use Rattle.aes3_wave.specs.declared.header_writing.Depth.TheVariants.{Sixteen, TwentyFour, ThirtyTwo}
use Rattle.aes3_wave.specs.Written.{written}
use Rattle.aes3_wave_runs.specs.declared.options.ExactWave.{ExactWave}
use Rattle.aes3_wave_runs.specs.declared.options.FilledWave.{FilledWave}
use Rattle.aes3_wave_runs.specs.declared.options.WaveWritten.{WaveWritten}
use Rattle.aes3_wave_runs.specs.Status.{rate_of_status}

-- the samples of a WAV file in the form of `to_pcm`
abbrev pub format_of : Depth → SampleFormat
format_of Sixteen = S16
format_of TwentyFour = S24
format_of ThirtyTwo = S32

-- the sampling frequency that the status of channel 1 in the first block names, if it names one
abbrev pub named_by : List (List (List Bool)) → Option ℕ
named_by [] = None
named_by (b ∷ bs) = rate_of_status (status_of b First)

-- that of the file: the one that is asked for, else that one, else 48,000 Hz
abbrev pub rate_for : Option ℕ → Option ℕ → ℕ
rate_for rate named = unwrap_or (option_or rate named) 48000

-- the header of a file whose length is not known
abbrev pub header_for : Depth → Option ℕ → List (List (List Bool)) → List ℕ
header_for depth rate bs = written depth (rate_for rate (named_by bs)) None

-- the file of blocks, and what is written of blocks behind which more may come: the header with the first one
abbrev pub wave_of : Depth → Option ℕ → List (List (List Bool)) → List ℕ
wave_of depth rate bs = header_for depth rate bs ++ narrowed (format_of depth) (samples bs)

abbrev pub begun_wave : Depth → Option ℕ → List (List (List Bool)) → List ℕ
begun_wave depth rate [] = []
begun_wave depth rate (b ∷ bs) = wave_of depth rate (b ∷ bs)

-- what `to_wav` promises
abbrev pub wave_cells : Form → Depth → Option ℕ → Promise WaveWritten
wave_cells form depth rate =
    over_cells form
    (λ c. wave_of depth rate (blocks c))
    (λ c. begun_wave depth rate (decided_blocks c))
    (λ b n. (n.counts ≡ counts_of form b) × (n.named ≡ named_by (blocks (cells_of form b))))

-- ---- files of other samples

-- whether a report is of a block that is given: of a whole one, or, where marked ones are given, of such a one
abbrev pub is_given : Bool → Report → Bool
is_given marked (Whole at s b) = true
is_given marked (Marked at s wrong) = marked
is_given marked (Fault at cell why) = false
is_given marked (Unfinished at cells) = false

-- the report of the first block that is given
abbrev pub first_given : Bool → List Report → Option Report
first_given marked [] = None
first_given marked (x ∷ r) = if is_given marked x then Some x else first_given marked r

-- the sampling frequency that the block of a report names: a marked one names none, as its status may be wrong
abbrev pub named_in : Report → Option ℕ
named_in (Whole at s b) = rate_of_status (status_of b First)
named_in (Marked at s wrong) = None
named_in (Fault at cell why) = None
named_in (Unfinished at cells) = None

abbrev pub named_first : Option Report → Option ℕ
named_first None = None
named_first (Some x) = named_in x

-- the header of a file by the report of its first block, if there is one, and what is written of it before the end
abbrev pub header_by : Depth → Option ℕ → Option Report → List ℕ
header_by depth rate o = written depth (rate_for rate (named_first o)) None

abbrev pub opened_by : Depth → Option ℕ → Option Report → List ℕ
opened_by depth rate None = []
opened_by depth rate (Some x) = header_by depth rate (Some x)

-- the file whose samples are these, made of cells and the reports on them; and what is written of it before the end
abbrev pub file_by : Depth → Option ℕ → Bool → (List Level → List Report → List ℕ) → List Level → List ℕ
file_by depth rate marked pcm c = header_by depth rate (first_given marked (reports c)) ++ pcm c (reports c)

abbrev pub begun_by : Depth → Option ℕ → Bool → (List Level → List Report → List ℕ) → List Level → List ℕ
begun_by depth rate marked pcm c = opened_by depth rate (first_given marked (decided c)) ++ pcm c (decided c)

-- what the first block names
abbrev pub IsNamed : Form → Bool → List ℕ → Option ℕ → Type 0
IsNamed form marked b named = named ≡ named_first (first_given marked (reports (cells_of form b)))

-- what `to_valid_wav` promises: the samples of `to_valid_pcm`
abbrev pub valid_pcm : Depth → List Level → List Report → List ℕ
valid_pcm depth c r = narrowed (format_of depth) (valid_samples (wholes r))

abbrev pub valid_wave_cells : Form → Depth → Option ℕ → Promise WaveWritten
valid_wave_cells form depth rate =
    over_cells form (file_by depth rate false (valid_pcm depth)) (begun_by depth rate false (valid_pcm depth))
    (λ b n. (n.counts ≡ counts_of form b) × IsNamed form false b n.named)

-- what `to_exact_wav` promises: those of `to_exact_pcm`
abbrev pub exact_pcm : Depth → List Level → List Report → List ℕ
exact_pcm depth c r = exact_samples (format_of depth) (placed r)

abbrev pub exact_wave_cells : Form → Depth → Option ℕ → Promise ExactWave
exact_wave_cells form depth rate =
    over_cells form (file_by depth rate false (exact_pcm depth)) (begun_by depth rate false (exact_pcm depth))
    (λ b n. (n.exact.counts ≡ counts_of form b)
    × (n.exact.refused ≡ first_unfit (format_of depth) (placed (reports (cells_of form b))))
    × IsNamed form false b n.named)

-- what `to_filled_wav` promises: those of `to_filled_pcm`
abbrev pub filled_pcm : Depth → Fill → Bool → List Level → List Report → List ℕ
filled_pcm depth fill marked c r = narrowed (format_of depth) (filled fill (given marked fill c r))

abbrev pub filled_wave_cells : Form → Depth → Option ℕ → Fill → Bool → Promise FilledWave
filled_wave_cells form depth rate fill marked =
    over_cells form (file_by depth rate marked (filled_pcm depth fill marked))
    (begun_by depth rate marked (filled_pcm depth fill marked))
    (λ b n. (n.filled.counts ≡ counts_of form b) × IsFilled n.filled marked fill (cells_of form b)
    × IsNamed form marked b n.named)
