-- Samples that lose nothing in a form: those of the blocks before the first that would lose some of it.
use Rattle.std.specs.Prelude.{ℕ, List, [], ◌∷◌, Bool, Option, Some, None, ◌≡◌, if◌then◌else◌}
use Rattle.aes3_cell.specs.declared.form.Form.{Form}
use Rattle.aes3_frame.specs.Samples.{block_samples, samples}
use Rattle.aes3_lock.specs.declared.report.Report.{Report}
use Rattle.aes3_lock.specs.Reports.{decided, reports}
use Rattle.aes3_input.specs.Driving.{over_cells}
use Rattle.aes3_input.specs.Inputs.{cells_of}
use Rattle.aes3_input.specs.Running.{Promise}
use Rattle.aes3_input.specs.Taking.{Writing}
use Rattle.aes3_forms_samples.specs.declared.sample_format.SampleFormat.{SampleFormat}
use Rattle.aes3_forms_samples.specs.Formats.{fits, narrowed}
use Rattle.aes3_lock_runs.specs.ReportRuns.{counts_of}
use Rattle.aes3_engine.specs.declared.exact_samples.Exact.{Exact}
use Rattle.aes3_engine.specs.Filling.{Placed, placed}

-- whether the samples of a block lose nothing in a form
abbrev pub block_fits : SampleFormat → List (List Bool) → Bool
block_fits format b = fits format (block_samples b)

-- the place of the first block that loses something, if one does, and the blocks before it
abbrev pub first_unfit : SampleFormat → List Placed → Option ℕ
first_unfit format [] = None
first_unfit format (x ∷ more) = if block_fits format x.block then first_unfit format more else Some x.place

abbrev pub fitting : SampleFormat → List Placed → List (List (List Bool))
fitting format [] = []
fitting format (x ∷ more) = if block_fits format x.block then x.block ∷ fitting format more else []

-- the samples of these in the form
abbrev pub exact_samples : SampleFormat → List Placed → List ℕ
exact_samples format bs = narrowed format (samples (fitting format bs))

-- what a run promises that writes them: how far it came is told at the end
abbrev pub exact_cells : Form → SampleFormat → Promise Exact
exact_cells form format =
    over_cells form
    (λ c. exact_samples format (placed (reports c)))
    (λ c. exact_samples format (placed (decided c)))
    (λ b n. (n.counts ≡ counts_of form b) × (n.refused ≡ first_unfit format (placed (reports (cells_of form b)))))

-- ---- block by block

-- nothing behind a block that lost something
abbrev pub unless_refused : Option ℕ → List ℕ → List ℕ
unless_refused None bytes = bytes
unless_refused (Some at) bytes = []

-- the first that did, of more blocks too
abbrev pub refused_behind : SampleFormat → Option ℕ → List Placed → Option ℕ
refused_behind format None more = first_unfit format more
refused_behind format (Some at) more = Some at

unfoldable pub exact_writing : SampleFormat → Writing Report
exact_writing format = record {
  adds = λ r x. unless_refused (first_unfit format (placed r)) (exact_samples format (placed (x ∷ [])));
  ends = λ r. [];
}
