-- What has been told of the account of some cells, entry by entry, and what is due.
use Rattle.std.specs.Prelude.{ℕ, List, [], ◌∷◌, ◌++◌, Bool, Option, Some, None, length, nat_lt, ◌≡◌, ◌≤◌, ◌+◌, ◌^◌}
use Rattle.aes3_level.specs.declared.level.Level.{Level}
use Rattle.aes3_frame.specs.Blocks.{block_len}
use Rattle.aes3_lock.specs.declared.report.Ending.{Ending}
use Rattle.aes3_lock.specs.declared.report.Ending.TheVariants.{Whole as EndsWhole, Marked as EndsMarked}
use Rattle.aes3_lock.specs.declared.report.Ending.TheVariants.{Fault as EndsFault, Unfinished as EndsUnfinished}
use Rattle.aes3_lock.specs.declared.report.Report.{Report}
use Rattle.aes3_lock.specs.declared.report.Report.TheVariants.{Whole, Marked, Fault, Unfinished}
use Rattle.aes3_lock.specs.Reports.{reports, wholes}
use Rattle.aes3_lock_gaps.specs.declared.account.Account.{Account}
use Rattle.aes3_lock_gaps.specs.declared.gap.Due.{Due}
use Rattle.aes3_lock_gaps.specs.declared.gap.Gap.{Gap}
use Rattle.aes3_lock_gaps.specs.Gaps.{Entry, reported, lost, cut, kind, full_gaps, full_count, gaps, account}
use Rattle.aes3_lock_gaps.specs.Gaps.{begun_account}

-- the entry of a gap
abbrev pub gap_entry : Gap → Entry
gap_entry g = kind g.counts g.at g.cells

-- the report of an ending, with this block
abbrev pub report_with : List (List Bool) → Ending → Report
report_with b (EndsWhole at s) = Whole at s b
report_with b (EndsMarked at s wrong) = Marked at s wrong
report_with b (EndsFault at cell why) = Fault at cell why
report_with b (EndsUnfinished at cells) = Unfinished at cells

-- the gaps that are due from place p on
abbrev pub gaps_up_to : Option Bool → ℕ → ℕ → List Entry
gaps_up_to None p q = full_gaps p (full_count p q)
gaps_up_to (Some counts) p q = gaps counts p q

abbrev pub due_gaps : ℕ → Due → List Entry
due_gaps p d = gaps_up_to d.short p d.to

-- those that are due before a report
abbrev pub due_before : Bool → Report → Due
due_before found (Whole at s b) = record { to = at; short = Some found }
due_before found (Marked at s wrong) = record { to = at; short = None }
due_before found (Fault at cell why) = record { to = at; short = None }
due_before found (Unfinished at cells) = record { to = at; short = None }

-- the reports among entries
abbrev pub reports_in : List Entry → List Report
reports_in [] = []
reports_in (reported x ∷ e) = x ∷ reports_in e
reports_in (lost at n ∷ e) = reports_in e
reports_in (cut at n ∷ e) = reports_in e

-- the place before which all cells are accounted for with an entry, and with several, where that was place p before
abbrev pub behind_entry : ℕ → Entry → ℕ
behind_entry p (reported (Whole at s b)) = at + block_len
behind_entry p (reported (Marked at s wrong)) = p
behind_entry p (reported (Fault at cell why)) = p
behind_entry p (reported (Unfinished at cells)) = p
behind_entry p (lost at n) = at + n
behind_entry p (cut at n) = at + n

abbrev pub behind_entries : ℕ → List Entry → ℕ
behind_entries p [] = p
behind_entries p (x ∷ e) = behind_entries (behind_entry p x) e

-- the report x is the next one on the cells c, where those among the entries e were told
abbrev pub ComesNext : List Level → List Entry → Report → Type 0
ComesNext c e x = (more : List Report) × (reports c ≡ reports_in e ++ x ∷ more)

-- an account that has told the entries e, which begin the account of the cells c, whatever of them is still to come:
-- all before its place, with a whole block among them or not; a lock takes no more cells
pub record Tells (k : Account) (c : List Level) (e : List Entry) : Type 0 where
  pub place_is : k.place ≡ behind_entries 0 e
  pub found_is : k.found ≡ nat_lt 0 (length (wholes (reports_in e)))
  pub few : length c ≤ 2 ^ 43
  pub more : List Entry
  pub begins : account c ≡ e ++ more

-- what stands of an account whatever cells follow these is among the entries e
abbrev pub HasBegun : List Level → List Entry → Type 0
HasBegun c e = (more : List Entry) × (e ≡ begun_account c ++ more)

-- and all of it is
abbrev pub HasAll : List Level → List Entry → Type 0
HasAll c e = e ≡ account c
