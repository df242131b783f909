-- What a run with a change answers: besides the counts, which settings its blocks take.
use Rattle.std.specs.Prelude.{ℕ, List, Bool, Option, Some, None, ◌≡◌, map}
use Rattle.std.specs.Option.{unwrap_or}
use Rattle.aes3_cell.specs.declared.form.Form.{Form}
use Rattle.aes3_frame.specs.declared.block.Channel.{Channel}
use Rattle.aes3_frame.specs.declared.block.Channel.TheVariants.{First, Second}
use Rattle.aes3_frame.specs.Statuses.{status_of}
use Rattle.aes3_status.specs.declared.change.Change.{Change}
use Rattle.aes3_status.specs.declared.setting.Settings.{Settings}
use Rattle.aes3_status.specs.declared.taken.Taken.{Taken}
use Rattle.aes3_status.specs.Taken.{AreKindsOf, nothing_taken, taken_by}
use Rattle.aes3_lock.specs.Reports.{blocks}
use Rattle.aes3_input.specs.Inputs.{cells_of}
use Rattle.aes3_input.specs.Running.{Promise}
use Rattle.aes3_input.specs.Driving.{over_cells}
use Rattle.aes3_lock_runs.specs.BlockRuns.{begun_stream, decided_blocks, written_stream}
use Rattle.aes3_lock_runs.specs.ReportRuns.{counts_of}
use Rattle.aes3_engine.specs.declared.rewriting_runs.MetKinds.{MetKinds}
use Rattle.aes3_engine.specs.declared.rewriting_runs.Rewritten.{Rewritten}
use Rattle.aes3_engine.specs.Rewriting.{rewritten_blocks}

-- the statuses of a channel in blocks
abbrev pub statuses_of : Channel → List (List (List Bool)) → List (List ℕ)
statuses_of channel bs = map (λ b. status_of b channel) bs

-- the statuses that settings meet there: where one is given, it stands in place of each
abbrev pub met_statuses : Option (List ℕ) → Channel → List (List (List Bool)) → List (List ℕ)
met_statuses status channel bs = map (λ b. unwrap_or status (status_of b channel)) bs

-- what statuses take of settings, where some are given
abbrev pub taken_of : Option Settings → List (List ℕ) → Taken
taken_of None statuses = nothing_taken
taken_of (Some settings) statuses = taken_by settings statuses

-- what a run answers to an input: what it counts, and what the blocks take of the settings for each channel
abbrev pub rewritten_answer : Form → Change → List ℕ → Rewritten
rewritten_answer form change b = record {
  counts = counts_of form b;
  first = taken_of change.settings1 (met_statuses change.status1 First (blocks (cells_of form b)));
  second = taken_of change.settings2 (met_statuses change.status2 Second (blocks (cells_of form b)));
}

-- what it promises: it writes the changed blocks, and answers so
abbrev pub rewritten_cells : Form → Form → Change → Promise Rewritten
rewritten_cells input output change =
    over_cells input (λ c. written_stream output (rewritten_blocks change (blocks c)))
    (λ c. begun_stream output (rewritten_blocks change (decided_blocks c)))
    (λ b n. n ≡ rewritten_answer input change b)

-- the kinds of status that were met are those of the statuses of these blocks
pub record AreMet (met : MetKinds) (bs : List (List (List Bool))) : Type 0 where
  pub first : AreKindsOf met.first (statuses_of First bs)
  pub second : AreKindsOf met.second (statuses_of Second bs)
