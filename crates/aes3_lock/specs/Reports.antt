-- All reports of a list of cells, and the blocks that stand in it.
use Rattle.std.specs.Prelude.{ℕ, suc, List, [], ◌∷◌, ◌++◌, Bool, true, false, not, length, ◌+◌, ◌==◌, ◌&&◌, Option}
use Rattle.std.specs.Prelude.{Some, None, nat_lt, option_to_list, option_map, if◌then◌else◌}
use Rattle.aes3_level.specs.declared.level.Level.{Level}
use Rattle.aes3_level.specs.declared.level.Level.TheVariants.{Low}
use Rattle.aes3_frame.specs.Blocks.{block_len, stream}
use Rattle.aes3_lock.specs.declared.report.Ending.{Ending}
use Rattle.aes3_lock.specs.declared.report.Ending.TheVariants.{Whole as EndsWhole, Marked as EndsMarked}
use Rattle.aes3_lock.specs.declared.report.Ending.TheVariants.{Fault as EndsFault, Unfinished as EndsUnfinished}
use Rattle.aes3_lock.specs.declared.report.Report.{Report}
use Rattle.aes3_lock.specs.declared.report.Report.TheVariants.{Whole, Marked, Fault, Unfinished}
use Rattle.aes3_slot.specs.Preambles.{entry}
use Rattle.aes3_lock.specs.Candidates.{begins_block, front}
use Rattle.aes3_lock.specs.Outcomes.{Outcome, whole, marked, fault, unfinished, outcome, payloads_of, why_of}

-- the report of an outcome at a place
abbrev pub report_of : ℕ → Outcome → Report
report_of at (whole s b) = Whole at s b
report_of at (marked s wrong) = Marked at s wrong
report_of at (fault offset) = Fault at (at + offset) (why_of offset)
report_of at (unfinished cells) = Unfinished at cells

-- the report of an ending, with the bits of the block's subframes
abbrev pub ending_report : List (List Bool) → Ending → Report
ending_report slots (EndsWhole at s) = Whole at s (payloads_of slots)
ending_report slots (EndsMarked at s wrong) = Marked at s wrong
ending_report slots (EndsFault at cell why) = Fault at cell why
ending_report slots (EndsUnfinished at cells) = Unfinished at cells

abbrev pub told : ℕ → Option Outcome → List Report
told at o = option_to_list (option_map (report_of at) o)

-- the outcome where a candidate begins
unfoldable pub outcome_at : List Level → Option Outcome
outcome_at c = if begins_block c then Some (outcome c) else None

-- the reports of cells of which the first is at place p: all candidates in order of place
abbrev pub reports_from : ℕ → List Level → List Report
reports_from p [] = []
reports_from p (x ∷ c) = told p (outcome_at (x ∷ c)) ++ reports_from (suc p) c

unfoldable pub reports : List Level → List Report
reports c = reports_from 0 c

-- the blocks of whole reports
abbrev pub wholes : List Report → List (List (List Bool))
wholes [] = []
wholes (Whole at s b ∷ r) = b ∷ wholes r
wholes (Marked at s wrong ∷ r) = wholes r
wholes (Fault at cell why ∷ r) = wholes r
wholes (Unfinished at cells ∷ r) = wholes r

-- the blocks that stand whole and closed, in order of place, and the same blocks as one lawful line after Low
unfoldable pub blocks : List Level → List (List (List Bool))
blocks c = wholes (reports c)

unfoldable pub normal : List Level → List Level
normal c = stream Low (blocks c)

-- the outcome that no later cell can change, and whether a later cell can
unfoldable pub decided_at : List Level → Option Outcome
decided_at c = if begins_block c && nat_lt (front (entry c) c) (length c) then Some (outcome c) else None

unfoldable pub open_at : List Level → Bool
open_at c = begins_block c && (front (entry c) c == length c)

-- the reports that stand whatever cells follow
abbrev pub decided_from : ℕ → List Level → List Report
decided_from p [] = []
decided_from p (x ∷ c) = told p (decided_at (x ∷ c)) ++ decided_from (suc p) c

unfoldable pub decided : List Level → List Report
decided c = decided_from 0 c

-- whether a report on n cells is neither unfinished nor of a block whose last cell is the last of all
abbrev pub is_decided : ℕ → Report → Bool
is_decided n (Whole at s b) = not ((at + block_len) == n)
is_decided n (Marked at s wrong) = not ((at + block_len) == n)
is_decided n (Fault at cell why) = true
is_decided n (Unfinished at cells) = false
