-- What becomes of a candidate.
use Rattle.std.specs.Prelude.{ℕ, List, Bool, length, ◌%◌, ◌==◌, map, take, nat_lt, if◌then◌else◌}
use Rattle.std.specs.List.{filter}
use Rattle.aes3_level.specs.declared.level.Level.{Level}
use Rattle.aes3_bits.specs.Bits.{odd_ones}
use Rattle.aes3_slot.specs.Slots.{payload_len}
use Rattle.aes3_slot.specs.Rules.{at, before}
use Rattle.aes3_slot.specs.Reading.{same, read_slots}
use Rattle.aes3_frame.specs.Blocks.{block_subframes, block_len}
use Rattle.aes3_lock.specs.declared.report.Why.{Why}
use Rattle.aes3_lock.specs.declared.report.Why.TheVariants.{Preamble, Biphase, Unclosed}
use Rattle.aes3_slot.specs.Preambles.{entry}
use Rattle.aes3_lock.specs.Candidates.{front}

-- a whole block after a level, with its payloads; a block after a level, with how many of its subframes have a wrong
-- parity bit; the offset of the cell that refutes the candidate; how many cells there are
pub data Outcome : Type 0 where
  whole : Level → List (List Bool) → Outcome
  marked : Level → ℕ → Outcome
  fault : ℕ → Outcome
  unfinished : ℕ → Outcome

-- of subframes of 28 bits, the payloads, and how many have a wrong parity bit
abbrev pub payloads_of : List (List Bool) → List (List Bool)
payloads_of slots = map (take payload_len) slots

abbrev pub wrong_parities : List (List Bool) → ℕ
wrong_parities slots = length (filter odd_ones slots)

-- what the bits of a block's subframes are
abbrev pub block_outcome : Level → List (List Bool) → Outcome
block_outcome s slots =
    if wrong_parities slots == 0 then whole s (payloads_of slots) else marked s (wrong_parities slots)

-- the outcome of the candidate at the start
unfoldable pub outcome : List Level → Outcome
outcome c =
    let f = front (entry c) c in
    if nat_lt f (length c) then
    (if nat_lt f block_len then fault f
    else (if same (at c f) (before (entry c) c f) then fault f else block_outcome (entry c) (read_slots block_subframes c)))
    else
    (if nat_lt f block_len then unfinished f else block_outcome (entry c) (read_slots block_subframes c))

-- why the cell at an offset refutes a candidate
abbrev pub why_of : ℕ → Why
why_of offset = if offset == block_len then Unclosed else (if nat_lt (offset % 64) 8 then Preamble else Biphase)
