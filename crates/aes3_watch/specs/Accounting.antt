-- What an account writes and counts, as its cells come.
use Rattle.std.specs.Prelude.{ℕ, List, [], ◌∷◌, ◌++◌, length, drop, ◌≡◌, ◌≤◌, ◌+◌, ◌^◌, nat_lt}
use Rattle.std.specs.List.{filter}
use Rattle.aes3_level.specs.declared.level.Level.{Level}
use Rattle.aes3_cell.specs.declared.form.Form.{Form}
use Rattle.aes3_cell.specs.declared.counts.Counts.{Counts}
use Rattle.aes3_lock.specs.Reports.{blocks, decided, reports, wholes}
use Rattle.aes3_lock.specs.Tallies.{is_faulty, is_unfinished}
use Rattle.aes3_input.specs.Taking.{Writing}
use Rattle.aes3_input.specs.Inputs.{cells_of}
use Rattle.aes3_status.specs.declared.lines.Lines.{Lines}
use Rattle.aes3_watch.specs.declared.ledger.Ledger.{Ledger}
use Rattle.aes3_lock_gaps.specs.Gaps.{account, accounted, begun_account, is_lost}
use Rattle.aes3_watch.specs.GapLines.{account_lines}

-- what a run counts that accounts for all cells: the gaps that count are faults too
unfoldable pub account_counts : Form → List ℕ → Counts
account_counts form b = record {
  bytes = length b;
  cells = length (cells_of form b);
  blocks = length (blocks (cells_of form b));
  faults = length (filter is_faulty (reports (cells_of form b))) + length (filter is_lost (account (cells_of form b)));
  unfinished = length (filter is_unfinished (reports (cells_of form b)));
  marks = 0;
}

-- a taker that writes the lines of an account: with one more cell those that now stand whatever follows, at the end all
-- others
unfoldable pub accounting : Lines → Writing Level
accounting lines = record {
  adds = λ c l. account_lines lines (drop (length (begun_account c)) (begun_account (c ++ l ∷ [])));
  ends = λ c. account_lines lines (drop (length (begun_account c)) (account c));
}

-- the counters of what stands whatever cells follow the cells c, and of all
pub record Accounts (place lost : ℕ) (c : List Level) : Type 0 where
  pub place_is : place ≡ accounted c
  pub lost_is : lost ≡ length (filter is_lost (begun_account c))

pub record Accounted (lost : ℕ) (c : List Level) : Type 0 where
  pub short : length c ≤ 2 ^ 43
  pub lost_is : lost ≡ length (filter is_lost (account c))

-- a ledger of the cells c, and one that has taken their end
pub record IsLedgerOf (k : Ledger) (c : List Level) : Type 0 where
  pub accounts : Accounts k.account.place k.lost c
  pub found_is : k.account.found ≡ nat_lt 0 (length (wholes (decided c)))

abbrev pub IsClosedLedgerOf : Ledger → List Level → Type 0
IsClosedLedgerOf k c = Accounted k.lost c
