-- The lines of channel status of whole runs.
use Rattle.std.specs.Prelude.{ℕ, suc, List, [], ◌∷◌, ◌++◌, Bool, true, false, length, ◌≡◌, Option, Some, None}
use Rattle.std.specs.Prelude.{if◌then◌else◌}
use Rattle.std.specs.List.{last_or}
use Rattle.std.specs.Option.{option_map}
use Rattle.std.specs.Str.{bytes_eq}
use Rattle.aes3_frame.specs.declared.block.Channel.{Channel}
use Rattle.aes3_frame.specs.declared.block.Channel.TheVariants.{First, Second}
use Rattle.aes3_frame.specs.Statuses.{status_of}
use Rattle.aes3_lock.specs.declared.report.Report.{Report}
use Rattle.aes3_lock.specs.declared.report.Report.TheVariants.{Whole, Marked, Fault, Unfinished}
use Rattle.aes3_lock.specs.Reports.{wholes}
use Rattle.aes3_input.specs.Taking.{Writing}
use Rattle.aes3_lock_runs.specs.BlockRuns.{numbered}
use Rattle.aes3_status.specs.declared.detail.Detail.{Detail}
use Rattle.aes3_text_lines.specs.StatusLines.{detail_text, status_line, status_line_with}

-- the line of a channel of a block, the lines of both, and of blocks numbered from 0
unfoldable pub channel_line : Channel → ℕ → List (List Bool) → List ℕ
channel_line channel n b = status_line n channel (status_of b channel)

abbrev pub channel_lines : ℕ → List (List Bool) → List ℕ
channel_lines n b = channel_line First n b ++ channel_line Second n b

abbrev pub status_lines : List (List (List Bool)) → List ℕ
status_lines bs = numbered channel_lines 0 bs

-- a line of a channel's status; where those that tell no change are left out, none behind the same status in the block
-- before, if there is one
abbrev pub told : Bool → Option (List ℕ) → List ℕ → List ℕ → List ℕ
told false before status line = line
told true None status line = line
told true (Some before) status line = if bytes_eq before status then [] else line

-- the line of a channel's status in block n, unless the block before it, if there is one, has the same status
unfoldable pub change_line : Channel → ℕ → Option (List ℕ) → List ℕ → List ℕ
change_line channel n before status = told true before status (status_line n channel status)

-- a channel's status in a block, if there is one
abbrev pub status_in : Channel → Option (List (List Bool)) → Option (List ℕ)
status_in channel b = option_map (λ a. status_of a channel) b

-- the lines of block n behind a block, if there is one; and those of blocks, the first of number n: each behind the one
-- before it
unfoldable pub block_changes : ℕ → Option (List (List Bool)) → List (List Bool) → List ℕ
block_changes n before b =
    change_line First n (status_in First before) (status_of b First)
    ++ change_line Second n (status_in Second before) (status_of b Second)

abbrev pub changes_from : ℕ → Option (List (List Bool)) → List (List (List Bool)) → List ℕ
changes_from n before [] = []
changes_from n before (b ∷ bs) = block_changes n before b ++ changes_from (suc n) (Some b) bs

-- of blocks numbered from 0: both lines of the first, and each channel's line where its status is not that of the block
-- before
abbrev pub change_lines : List (List (List Bool)) → List ℕ
change_lines bs = changes_from 0 None bs

-- the line of a channel's status in block n, which begins at cell `at`, with its detail behind
unfoldable pub detail_line : Detail → Channel → ℕ → ℕ → List (List Bool) → List ℕ
detail_line detail channel n at b = status_line_with n channel (status_of b channel) (detail_text detail channel at b)

-- the lines of block n, which begins at cell `at`, behind a block, if there is one: both, or those of changes
unfoldable pub block_details : Bool → Detail → ℕ → ℕ → Option (List (List Bool)) → List (List Bool) → List ℕ
block_details changes detail n at before b =
    told changes (status_in First before) (status_of b First) (detail_line detail First n at b)
    ++ told changes (status_in Second before) (status_of b Second) (detail_line detail Second n at b)

-- what a report writes behind the blocks bs, and reports one behind the other
abbrev pub report_details : Bool → Detail → List (List (List Bool)) → Report → List ℕ
report_details changes detail bs (Whole at s b) = block_details changes detail (length bs) at (last_or None bs) b
report_details changes detail bs (Marked at s wrong) = []
report_details changes detail bs (Fault at cell why) = []
report_details changes detail bs (Unfinished at cells) = []

abbrev pub details_from : Bool → Detail → List (List (List Bool)) → List Report → List ℕ
details_from changes detail bs [] = []
details_from changes detail bs (x ∷ r) =
    report_details changes detail bs x ++ details_from changes detail (bs ++ wholes (x ∷ [])) r

-- of reports the lines of each whole block: both; or both of the first, and of each other those of a status that is not
-- that of the block before
abbrev pub detail_lines : Detail → List Report → List ℕ
detail_lines detail r = details_from false detail [] r

abbrev pub change_details : Detail → List Report → List ℕ
change_details detail r = details_from true detail [] r

-- a reporter that writes so
unfoldable pub showing : Bool → Detail → Writing Report
showing changes detail = record { adds = λ r x. report_details changes detail (wholes r) x; ends = λ r. [] }

-- the statuses of the last of blocks, if there is one
pub record AreLast (first second : Option (List ℕ)) (bs : List (List (List Bool))) : Type 0 where
  pub first_is : first ≡ status_in First (last_or None bs)
  pub second_is : second ≡ status_in Second (last_or None bs)
