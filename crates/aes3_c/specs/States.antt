-- What C keeps of a lock and is told in a report.
use Rattle.std.specs.Prelude.{ℕ, List, Bool, Option, Some, None, drop, map, false, ◌++◌, ◌≡◌, ◌==◌, nat_lt}
use Rattle.std.specs.Prelude.{if◌then◌else◌}
use Rattle.std.specs.Option.{ForSome}
use Rattle.aes3_level.specs.declared.level.Level.{Level}
use Rattle.aes3_level.specs.Words.{bit_of, level_of, low_cells, word_cells}
use Rattle.aes3_slot.specs.ReadWords.{read_words}
use Rattle.aes3_frame.specs.Files.{payload_of, word_of}
use Rattle.aes3_lock.specs.declared.candidate.Candidate.{Candidate}
use Rattle.aes3_lock.specs.declared.report.Report.{Report}
use Rattle.aes3_lock.specs.declared.report.Report.TheVariants.{Whole, Marked, Fault, Unfinished}
use Rattle.aes3_lock.specs.Following.{BeginsIn, Follows, LockState}
use Rattle.aes3_lock.specs.Outcomes.{payloads_of}
use Rattle.aes3_lock.specs.Reports.{open_at}
use Rattle.aes3_c.specs.Codes.{why_code, why_of_code}
use Rattle.aes3_c.specs.declared.lock_calls.Aes3Lock.{Aes3Lock}
use Rattle.aes3_c.specs.declared.report_record.Aes3Report.{Aes3Report}

-- the lock that these numbers keep
abbrev pub candidate_in : Aes3Lock → Option Candidate
candidate_in k = if k.in_hand == 0 then None else if nat_lt k.seen k.at then None else
    Some (record { at = k.at; before = level_of k.before; level = level_of k.level })

abbrev pub state_of : Aes3Lock → LockState
state_of k = record {
  seen = k.seen;
  recent = low_cells 8 k.recent;
  candidate = candidate_in k;
  subframe = k.subframe;
  words = k.words;
}

-- a lock in this state goes on no further with the word: it decides a report, or a block begins in it while the lock
-- holds none
pub record StopsAt (k : LockState) (word : ℕ) : Type 0 where
  pub decides : (cells : List Level) → Follows k cells
      → ForSome k.candidate (λ t. open_at (drop t.at (cells ++ word_cells word)) ≡ false)
  pub begins : k.candidate ≡ None → BeginsIn (drop 1 k.recent ++ word_cells word)

-- the block whose subframes' cells a lock holds
abbrev pub block_in : LockState → List (List Bool)
block_in k = payloads_of (read_words k.words)

-- the report that these numbers tell, where a whole block is this one
abbrev pub told_of : List (List Bool) → Aes3Report → Option Report
told_of block r =
    if r.kind == 1 then Some (Whole r.at (level_of r.before) block)
    else if r.kind == 2 then Some (Marked r.at (level_of r.before) r.wrong)
    else if r.kind == 3 then Some (Fault r.at r.cell (why_of_code r.why))
    else if r.kind == 4 then Some (Unfinished r.at r.cell)
    else None

-- the same with the block of its words
abbrev pub told_in : Aes3Report → Option Report
told_in r = told_of (map payload_of r.words) r

-- the numbers that tell a report but for the block, or that there is none: the codes of the header
abbrev pub Coded : Option Report → Aes3Report → Type 0
Coded None r = r.kind ≡ 0
Coded (Some (Whole at before block)) r = (r.kind ≡ 1) × (r.at ≡ at) × (r.before ≡ bit_of before)
Coded (Some (Marked at before wrong)) r = (r.kind ≡ 2) × (r.at ≡ at) × (r.before ≡ bit_of before) × (r.wrong ≡ wrong)
Coded (Some (Fault at cell why)) r = (r.kind ≡ 3) × (r.at ≡ at) × (r.cell ≡ cell) × (r.why ≡ why_code why)
Coded (Some (Unfinished at cells)) r = (r.kind ≡ 4) × (r.at ≡ at) × (r.cell ≡ cells)

-- the words of a block file, where a report has a block
abbrev pub HasBlock : Option Report → Aes3Report → Type 0
HasBlock o r = (at : ℕ) (before : Level) (block : List (List Bool)) → o ≡ Some (Whole at before block)
    → r.words ≡ map word_of block
