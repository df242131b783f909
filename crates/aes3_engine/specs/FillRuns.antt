-- What a run promises that writes samples which keep time.
use Rattle.std.specs.Prelude.{ℕ, List, Bool, ◌≡◌, ◌+◌, ◌*◌, length}
use Rattle.aes3_level.specs.declared.level.Level.{Level}
use Rattle.aes3_cell.specs.declared.form.Form.{Form}
use Rattle.aes3_cell.specs.Ends.{Grew}
use Rattle.aes3_frame.specs.declared.fill.Fill.{Fill}
use Rattle.aes3_lock.specs.Reports.{decided, reports}
use Rattle.aes3_input.specs.Driving.{over_cells}
use Rattle.aes3_input.specs.Inputs.{cells_of}
use Rattle.aes3_input.specs.Running.{Movement, Promise}
use Rattle.aes3_forms_samples.specs.declared.sample_format.SampleFormat.{SampleFormat}
use Rattle.aes3_forms_samples.specs.Formats.{narrowed}
use Rattle.aes3_lock_runs.specs.ReportRuns.{counts_of}
use Rattle.aes3_engine.specs.declared.filling.Filled.{Filled}
use Rattle.aes3_engine.specs.Filling.{block_frames, filled, frame_bytes, frames_filled, given, marked_given}

-- what it answers where the input has these cells: how many frames are filled, and how many marked blocks given
pub record IsFilled (n : Filled) (marked : Bool) (fill : Fill) (c : List Level) : Type 0 where
  pub frames : n.frames ≡ frames_filled (given marked fill c (reports c))
  pub blocks : n.marked ≡ marked_given marked (reports c)

-- the run, with the marked blocks or without
abbrev pub filled_cells : Form → SampleFormat → Fill → Bool → Promise Filled
filled_cells form format fill marked =
    over_cells form
    (λ c. narrowed format (filled fill (given marked fill c (reports c))))
    (λ c. narrowed format (filled fill (given marked fill c (decided c))))
    (λ b n. (n.counts ≡ counts_of form b) × IsFilled n marked fill (cells_of form b))

-- the sink has taken samples in this form that are the frames of n's blocks and those that n has filled
pub record WroteFrames (format : SampleFormat) (n : Filled) (sink : Movement) : Type 0 where
  pub samples : List ℕ
  pub grew : Grew sink.old sink.new (narrowed format samples)
  pub count : length samples ≡ frame_bytes * (block_frames * (n.counts.blocks + n.marked) + n.frames)
