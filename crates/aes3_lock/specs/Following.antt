-- Which lists of cells a lock and a scan follow.
use Rattle.std.specs.Prelude.{ℕ, List, true, false, length, ◌≡◌, ◌<◌, ◌≤◌, ◌+◌, ◌-◌, ◌*◌, ◌/◌, ◌%◌, ◌^◌, Some, drop}
use Rattle.std.specs.Prelude.{take, get_or, MatchOption, Option, None}
use Rattle.aes3_level.specs.declared.level.Level.{Level}
use Rattle.aes3_level.specs.Words.{low_cells, word_cells}
use Rattle.aes3_slot.specs.Rules.{at, before, rule}
use Rattle.aes3_slot.specs.Reading.{read_slots}
use Rattle.aes3_slot.specs.ReadWords.{read_words}
use Rattle.aes3_frame.specs.Blocks.{block_subframes, block_len, mark_at}
use Rattle.aes3_lock.specs.declared.candidate.Candidate.{Candidate}
use Rattle.aes3_slot.specs.Preambles.{entry}
use Rattle.aes3_lock.specs.Candidates.{begins_block}
use Rattle.aes3_lock.specs.declared.report.Ending.{Ending}
use Rattle.aes3_lock.specs.declared.report.Ending.TheVariants.{Whole, Marked, Fault, Unfinished}
use Rattle.aes3_lock.specs.declared.report.Report.{Report}
use Rattle.aes3_lock.specs.Reports.{open_at, ending_report}
use Rattle.aes3_lock.specs.Steps.{last_eight}

-- how many cells a lock has seen, the last eight, the candidate in hand, the cells of its last subframe that isn't
-- whole, the first in the lowest bit, and words with the cells of its whole subframes
pub record LockState : Type 0 where
  pub seen : ℕ
  pub recent : List Level
  pub candidate : Option Candidate
  pub subframe : ℕ
  pub words : List ℕ

-- how many cells a scan has seen, and the last eight
pub record ScanState : Type 0 where
  pub seen : ℕ
  pub recent : List Level

-- the words have the cells of each whole subframe
abbrev pub Filled : List ℕ → List Level → Type 0
Filled words d = (j : ℕ) → j < block_subframes → 64 * j + 64 ≤ length d
    → word_cells (get_or words j 0) ≡ take 64 (drop (64 * j) d)

-- what is kept of a candidate's cells d after level s: the level before the subframe that isn't whole, its cells, and
-- those of each subframe before it
pub record Gathered (u : Level) (subframe : ℕ) (words : List ℕ) (s : Level) (d : List Level) : Type 0 where
  pub level : u ≡ before s d (64 * (length d / 64))
  pub cells : low_cells (length d % 64) subframe ≡ drop (64 * (length d / 64)) d
  pub few : subframe < 2 ^ (length d % 64)
  pub whole : Filled words d

abbrev pub NoneOpen : List Level → Type 0
NoneOpen c = (q : ℕ) → open_at (drop q c) ≡ false

-- a later cell can still change the outcome of this candidate
pub record OpenAt (subframe : ℕ) (words : List ℕ) (t : Candidate) (c : List Level) : Type 0 where
  pub within : t.at + 8 ≤ length c
  pub opened : open_at (drop t.at c) ≡ true
  pub first : t.before ≡ entry (drop t.at c)
  pub gathered : Gathered t.level subframe words (entry (drop t.at c)) (drop t.at c)

-- a lock that has taken these cells, and no others
pub record Follows (k : LockState) (c : List Level) : Type 0 where
  pub seen : k.seen ≡ length c
  pub recent : k.recent ≡ last_eight c
  pub candidate : MatchOption k.candidate (NoneOpen c) (λ t. OpenAt k.subframe k.words t c)

-- the preamble of a block stands at one of the first 64 places
pub record BeginsIn (c : List Level) : Type 0 where
  pub place : ℕ
  pub within : place < 64
  pub is : begins_block (drop place c) ≡ true

-- the report of an ending that a lock answers, with the block that it holds
abbrev pub report_in : LockState → Ending → Report
report_in k e = ending_report (read_words k.words) e

-- where an ending is of a block, whole or marked, the words have the bits of its subframes in these cells
abbrev pub HeldBlock : List ℕ → List Level → Option Ending → Type 0
HeldBlock words c None = Unit {0}
HeldBlock words c (Some (Whole at s)) = read_words words ≡ read_slots block_subframes (drop at c)
HeldBlock words c (Some (Marked at s wrong)) = read_words words ≡ read_slots block_subframes (drop at c)
HeldBlock words c (Some (Fault at cell why)) = Unit {0}
HeldBlock words c (Some (Unfinished at cells)) = Unit {0}

-- this cell does not go on with the candidate in hand
pub record Stops (k : LockState) (l : Level) : Type 0 where
  pub in_hand : Candidate
  pub is : k.candidate ≡ Some in_hand
  pub stop : k.seen - in_hand.at < block_len
      → rule mark_at (k.seen - in_hand.at) l in_hand.level (at k.recent 7) ≡ false

-- a scan that has
pub record ScanFollows (k : ScanState) (c : List Level) : Type 0 where
  pub seen : k.seen ≡ length c
  pub recent : k.recent ≡ last_eight c
