-- Reports counted by their kinds.
use Rattle.std.specs.Prelude.{ℕ, List, Bool, true, false, ◌≡◌, length}
use Rattle.std.specs.List.{filter}
use Rattle.aes3_lock.specs.declared.report.Report.{Report}
use Rattle.aes3_lock.specs.declared.report.Report.TheVariants.{Whole, Marked, Fault, Unfinished}
use Rattle.aes3_lock.specs.declared.tally.Tally.{Tally}
use Rattle.aes3_lock.specs.Reports.{wholes}

-- whether a report tells of a faulty block, and of one that the end cuts
abbrev pub is_faulty : Report → Bool
is_faulty (Whole at s b) = false
is_faulty (Marked at s wrong) = true
is_faulty (Fault at cell why) = true
is_faulty (Unfinished at cells) = false

abbrev pub is_unfinished : Report → Bool
is_unfinished (Whole at s b) = false
is_unfinished (Marked at s wrong) = false
is_unfinished (Fault at cell why) = false
is_unfinished (Unfinished at cells) = true

-- counters of the reports r
pub record Tallies (blocks faults unfinished : ℕ) (r : List Report) : Type 0 where
  pub blocks_is : blocks ≡ length (wholes r)
  pub faults_is : faults ≡ length (filter is_faulty r)
  pub unfinished_is : unfinished ≡ length (filter is_unfinished r)

abbrev pub IsTallyOf : Tally → List Report → Type 0
IsTallyOf t r = Tallies t.blocks t.faults t.unfinished r
