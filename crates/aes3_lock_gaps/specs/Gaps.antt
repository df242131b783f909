-- Where the cells of an input are: in whole blocks, and in the gaps between them.
use Rattle.std.specs.Prelude.{ℕ, zero, suc, List, [], ◌∷◌, ◌++◌, Bool, true, false, length, ◌+◌, ◌-◌, ◌*◌, ◌/◌, nat_lt}
use Rattle.std.specs.Prelude.{if◌then◌else◌}
use Rattle.aes3_level.specs.declared.level.Level.{Level}
use Rattle.aes3_frame.specs.Blocks.{block_len}
use Rattle.aes3_lock.specs.declared.report.Report.{Report}
use Rattle.aes3_lock.specs.declared.report.Report.TheVariants.{Whole, Marked, Fault, Unfinished}
use Rattle.aes3_lock.specs.Reports.{decided, reports, wholes}

-- an entry of the account of an input's cells: a report; a gap from a place on, of some cells, that counts among the
-- faults; and one that doesn't, since the input is cut there
pub data Entry : Type 0 where
  reported : Report → Entry
  lost : ℕ → ℕ → Entry
  cut : ℕ → ℕ → Entry

-- n gaps of a block's length from place p on
abbrev pub full_gaps : ℕ → ℕ → List Entry
full_gaps p zero = []
full_gaps p (suc n) = lost p block_len ∷ full_gaps (p + block_len) n

-- how many of them lie between places p and q, and the place behind them
unfoldable pub full_count : ℕ → ℕ → ℕ
full_count p q = (q - p) / block_len

unfoldable pub behind_full : ℕ → ℕ → ℕ
behind_full p q = p + block_len * full_count p q

-- the gap of the cells that are left between places p and q, if there are any; it counts or not
abbrev pub kind : Bool → ℕ → ℕ → Entry
kind true = lost
kind false = cut

abbrev pub rest_gap : Bool → ℕ → ℕ → List Entry
rest_gap counts p q = if nat_lt p q then kind counts p (q - p) ∷ [] else []

-- the gaps between places p and q
abbrev pub gaps : Bool → ℕ → ℕ → List Entry
gaps counts p q = full_gaps p (full_count p q) ++ rest_gap counts (behind_full p q) q

-- the gaps before a report, where the cells before place p are accounted for and n whole blocks stand there: all cells
-- before a whole block, a short gap counting if a whole block stands before it; before any other report only gaps of a
-- block's length
abbrev pub gaps_before : ℕ → ℕ → Report → List Entry
gaps_before n p (Whole at s b) = gaps (nat_lt 0 n) p at
gaps_before n p (Marked at s wrong) = full_gaps p (full_count p at)
gaps_before n p (Fault at cell why) = full_gaps p (full_count p at)
gaps_before n p (Unfinished at cells) = full_gaps p (full_count p at)

-- the place before which all cells are accounted for with a report
abbrev pub behind_report : ℕ → Report → ℕ
behind_report p (Whole at s b) = at + block_len
behind_report p (Marked at s wrong) = behind_full p at
behind_report p (Fault at cell why) = behind_full p at
behind_report p (Unfinished at cells) = behind_full p at

-- reports, each behind the gaps before it, and the place before which all cells are accounted for with them
abbrev pub account_from : ℕ → ℕ → List Report → List Entry
account_from n p [] = []
account_from n p (x ∷ r) =
    gaps_before n p x ++ reported x ∷ account_from (n + length (wholes (x ∷ []))) (behind_report p x) r

abbrev pub reached_from : ℕ → List Report → ℕ
reached_from p [] = p
reached_from p (x ∷ r) = reached_from (behind_report p x) r

-- the account of all cells: their reports, with all gaps; the last one is where the input is cut
unfoldable pub account : List Level → List Entry
account c = account_from 0 0 (reports c) ++ gaps false (reached_from 0 (reports c)) (length c)

-- what of it stands whatever cells follow, as soon as two blocks' cells have come from the first of a gap on, and the
-- place before which all cells are accounted for with it
unfoldable pub begun_account : List Level → List Entry
begun_account c =
    let p = reached_from 0 (decided c) in
    account_from 0 0 (decided c) ++ full_gaps p (full_count p (length c - block_len))

unfoldable pub accounted : List Level → ℕ
accounted c = behind_full (reached_from 0 (decided c)) (length c - block_len)

-- whether an entry is a gap that counts among the faults
abbrev pub is_lost : Entry → Bool
is_lost (reported x) = false
is_lost (lost p n) = true
is_lost (cut p n) = false
