-- Blocks with a change, up to the first that does not take all settings of it.
use Rattle.std.specs.Prelude.{ℕ, List, [], ◌∷◌, Bool, true, not, ◌&&◌, Option, Some, None, ◌≡◌, map}
use Rattle.std.specs.Prelude.{if◌then◌else◌}
use Rattle.std.specs.List.{flat_map}
use Rattle.std.specs.Option.{is_some, unwrap_or}
use Rattle.aes3_cell.specs.declared.form.Form.{Form}
use Rattle.aes3_cell.specs.Written.{ending}
use Rattle.aes3_frame.specs.declared.block.Channel.{Channel}
use Rattle.aes3_frame.specs.declared.block.Channel.TheVariants.{First, Second}
use Rattle.aes3_frame.specs.Statuses.{status_of}
use Rattle.aes3_status.specs.declared.change.Change.{Change}
use Rattle.aes3_status.specs.declared.setting.Settings.{Settings}
use Rattle.aes3_status.specs.KindPlaces.{AreFirstsOf, Met, first_place}
use Rattle.aes3_status.specs.TakingAll.{takes_all}
use Rattle.aes3_lock.specs.declared.report.Report.{Report}
use Rattle.aes3_lock.specs.Reports.{decided, reports}
use Rattle.aes3_input.specs.Inputs.{cells_of}
use Rattle.aes3_input.specs.Running.{Promise}
use Rattle.aes3_input.specs.Driving.{over_cells}
use Rattle.aes3_input.specs.Taking.{Writing}
use Rattle.aes3_lock_runs.specs.BlockRuns.{begun_stream, normal_block, written_stream}
use Rattle.aes3_lock_runs.specs.ReportRuns.{counts_of}
use Rattle.aes3_engine.specs.declared.exact_samples.Exact.{Exact}
use Rattle.aes3_engine.specs.declared.rewriting_exactly.MetPlaces.{MetPlaces}
use Rattle.aes3_engine.specs.Filling.{Placed, placed}
use Rattle.aes3_engine.specs.Rewriting.{rewritten, rewritten_blocks}

-- whether a status takes all settings, where some are given
abbrev pub takes_given : Option Settings → List ℕ → Bool
takes_given None status = true
takes_given (Some settings) status = takes_all settings status

-- whether a block takes those of a channel, of which its status is to be the one that is given, or else is its own; and
-- whether it takes those of both, which is all of a change
abbrev pub takes_in : Channel → Option (List ℕ) → Option Settings → List (List Bool) → Bool
takes_in channel status settings b = takes_given settings (unwrap_or status (status_of b channel))

abbrev pub takes_change : Change → List (List Bool) → Bool
takes_change change b =
    takes_in First change.status1 change.settings1 b && takes_in Second change.status2 change.settings2 b

-- the place of the first block that does not take those of a channel, and of the first that does not take all
abbrev pub first_refused_in : Channel → Option (List ℕ) → Option Settings → List Placed → Option ℕ
first_refused_in channel status settings xs =
    first_place (λ (x : Placed). x.place) (λ (x : Placed). not (takes_in channel status settings x.block)) xs

abbrev pub first_refused : Change → List Placed → Option ℕ
first_refused change xs =
    first_place (λ (x : Placed). x.place) (λ (x : Placed). not (takes_change change x.block)) xs

-- the blocks before that
abbrev pub taking : Change → List Placed → List (List (List Bool))
taking change [] = []
taking change (x ∷ more) = if takes_change change x.block then x.block ∷ taking change more else []

-- nothing behind a block that was refused
abbrev pub unless : Bool → List ℕ → List ℕ
unless refused bytes = if refused then [] else bytes

-- these blocks as they are written, before the ending, and with it
abbrev pub begun_exactly : Form → Change → List Placed → List ℕ
begun_exactly form change xs = begun_stream form (rewritten_blocks change (taking change xs))

abbrev pub written_exactly : Form → Change → List Placed → List ℕ
written_exactly form change xs = written_stream form (rewritten_blocks change (taking change xs))

-- what a run answers to an input: what it counts, and the place of the first block that is refused
abbrev pub AnswersExactly : Form → Change → List ℕ → Exact → Type 0
AnswersExactly form change b n =
    (n.counts ≡ counts_of form b) × (n.refused ≡ first_refused change (placed (reports (cells_of form b))))

-- what it promises: it writes the blocks before that, and answers so
abbrev pub exactly_rewritten_cells : Form → Form → Change → Promise Exact
exactly_rewritten_cells input output change =
    over_cells input (λ c. written_exactly output change (placed (reports c)))
    (λ c. begun_exactly output change (placed (decided c)))
    (AnswersExactly input change)

-- ---- block by block

-- the statuses of a channel, with the places of their blocks; and that places are those of the first of each kind
abbrev pub met_of : Channel → List Placed → List Met
met_of channel xs = map (λ (x : Placed). record { place = x.place; status = status_of x.block channel }) xs

pub record AreMetAt (met : MetPlaces) (xs : List Placed) : Type 0 where
  pub first : AreFirstsOf met.first (met_of First xs)
  pub second : AreFirstsOf met.second (met_of Second xs)

-- the bytes of the blocks before the first that is refused
abbrev pub taking_bytes : Form → Change → List Placed → List ℕ
taking_bytes form change xs = flat_map (λ b. normal_block form 0 (rewritten change b)) (taking change xs)

unfoldable pub exactly_writing : Form → Change → Writing Report
exactly_writing form change = record {
  adds = λ r x. unless (is_some (first_refused change (placed r))) (taking_bytes form change (placed (x ∷ [])));
  ends = λ r. ending form;
}
