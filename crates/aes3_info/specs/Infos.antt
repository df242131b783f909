-- What a run writes and counts that tells of a recording, as its cells come.
use Rattle.std.specs.Prelude.{ℕ, List, [], length, ◌≡◌}
use Rattle.aes3_level.specs.declared.level.Level.{Level}
use Rattle.aes3_cell.specs.declared.form.Form.{Form}
use Rattle.aes3_cell.specs.declared.counts.Counts.{Counts}
use Rattle.aes3_frame.specs.declared.block.Channel.TheVariants.{First, Second}
use Rattle.aes3_lock.specs.declared.report.Report.{Report}
use Rattle.aes3_lock.specs.declared.report.Report.TheVariants.{Whole, Marked, Fault, Unfinished}
use Rattle.aes3_lock.specs.Reports.{decided}
use Rattle.aes3_lock_gaps.specs.Gaps.{account_from, reached_from}
use Rattle.aes3_input.specs.Taking.{Writing}
use Rattle.aes3_input.specs.Inputs.{cells_of}
use Rattle.aes3_status.specs.declared.style.Notation.{Notation}
use Rattle.aes3_info.specs.declared.facts.Facts.{Facts}
use Rattle.aes3_info.specs.Facts.{facts_of, facts_with, more, with_block}
use Rattle.aes3_info.specs.Pages.{page}

-- the page of cells
abbrev pub info_page : Notation → List Level → List ℕ
info_page notation c = page notation (facts_of c)

-- nothing stands before the end
abbrev pub no_page : List Level → List ℕ
no_page c = []

-- what a run counts that writes it: gaps that count are faults too
abbrev pub faults_in : Facts → ℕ
faults_in f = more (more f.reports.marked f.reports.fault) f.gaps.gaps

unfoldable pub info_counts : Form → List ℕ → Counts
info_counts form b = record {
  bytes = length b;
  cells = length (cells_of form b);
  blocks = (facts_of (cells_of form b)).reports.whole;
  faults = faults_in (facts_of (cells_of form b));
  unfinished = (facts_of (cells_of form b)).reports.unfinished;
  marks = 0;
}

-- cells write nothing, and their end the page
unfoldable pub inspecting : Notation → Writing Level
inspecting notation = record { adds = λ c l. []; ends = info_page notation }

-- what is known by these reports, and the place before which they account for the cells
pub record Behind (facts : Facts) (place : ℕ) (r : List Report) : Type 0 where
  pub facts_is : facts ≡ facts_with 0 r (account_from 0 0 r)
  pub place_is : place ≡ reached_from 0 r

-- by those that the cells c decide
abbrev pub Inspects : Facts → ℕ → List Level → Type 0
Inspects facts place c = Behind facts place (decided c)

-- what is known with the samples of a report's block
abbrev pub with_samples : Facts → Report → Facts
with_samples f (Whole at s b) = record {
  cells = f.cells;
  reports = f.reports;
  gaps = f.gaps;
  first = with_block f.first First b;
  second = with_block f.second Second b;
}
with_samples f (Marked at s wrong) = f
with_samples f (Fault at cell why) = f
with_samples f (Unfinished at cells) = f
