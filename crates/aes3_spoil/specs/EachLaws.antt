-- What each kind of a single error makes of the reports.
use Rattle.std.specs.Prelude.{ℕ, List, [], ◌∷◌, None, Bool, length, ◌≡◌, ◌≢◌, ◌<◌, ◌≤◌, ◌+◌, ◌*◌, ◌%◌, ◌&&◌, nat_lt}
use Rattle.std.specs.Prelude.{drop, map, if◌then◌else◌}
use Rattle.std.specs.List.{All, Contains}
use Rattle.aes3_level.specs.declared.level.Level.{Level}
use Rattle.aes3_level.specs.Cells.{other}
use Rattle.aes3_frame.specs.Blocks.{block_len, block_subframes, stream, IsBlock}
use Rattle.aes3_lock.specs.declared.report.Report.{Report}
use Rattle.aes3_lock.specs.declared.report.Report.TheVariants.{Fault, Marked, Unfinished, Whole}
use Rattle.aes3_lock.specs.declared.report.Why.TheVariants.{Preamble, Biphase}
use Rattle.aes3_lock.specs.Damage.{inverted_in}
use Rattle.aes3_lock.specs.Pieces.{IsPiece, given_blocks}
use Rattle.aes3_lock.specs.Remains.{holds, place_of}
use Rattle.aes3_lock.specs.Reports.{blocks, reports}
use Rattle.aes3_lock.specs.Standing.{StandsClosed}
use Rattle.aes3_spoil.specs.declared.errors.Errors.{Errors}
use Rattle.aes3_spoil.specs.declared.kinds.ErrorKind.TheVariants.{Changed, Doubled, Inverted}
use Rattle.aes3_spoil.specs.Errors.{errors_of}
use Rattle.aes3_spoil.specs.ReportLaws.{IsTheReport}
use Rattle.aes3_spoil.specs.SpoilLaws.{IsOne}
use Rattle.aes3_spoil.specs.Spoiled.{spoiled}
use Rattle.aes3_spoil.specs.Subframes.{check_errors, parity_cell, preamble_cell, slot_cell}

-- what is given of a block that begins at cell p, where cell k is doubled: none that holds it, unless it is one of the
-- three of its first run, since a preamble is known by the last three before a change
abbrev pub after_doubling : ℕ → ℕ → List (List Bool) → List (List (List Bool))
after_doubling k p b = if holds k p && nat_lt (p + 2) k then [] else b ∷ []

-- of a whole lawful stream, exactly these blocks are given
abbrev pub DoubledCellTakesItsBlock : Type 0
DoubledCellTakesItsBlock =
    (errors : Errors) (s : Level) (bs : List (List (List Bool))) → All IsBlock bs
    → (k : ℕ) → IsOne errors Doubled k → k < length (stream s bs)
    → blocks (spoiled errors (stream s bs)) ≡ given_blocks (after_doubling k) bs 0 (length (stream s bs))

-- where a block stands closed at place q of any cells, one biphase error in time slot 4 to 31 of its subframe n is told
-- as a fault of that block at the slot's first cell
abbrev pub BiphaseErrorIsTheFault : Type 0
BiphaseErrorIsTheFault =
    (errors : Errors) (q n slot : ℕ) (c : List Level) (b : List (List Bool)) (s : Level)
    → IsOne errors Changed (slot_cell (q + 64 * n) slot)
    → StandsClosed b s (drop q c) → n < block_subframes → 4 ≤ slot → slot ≤ 31
    → IsTheReport (spoiled errors c) q (Fault q (slot_cell (q + 64 * n) slot) Biphase)

-- one preamble error in another than its first subframe, as a fault at the preamble's third cell; in its first
-- subframe there is no report of that place
abbrev pub PreambleErrorIsTheFault : Type 0
PreambleErrorIsTheFault =
    (errors : Errors) (q n : ℕ) (c : List Level) (b : List (List Bool)) (s : Level)
    → IsOne errors Changed (preamble_cell (q + 64 * n))
    → StandsClosed b s (drop q c) → 0 < n → n < block_subframes
    → IsTheReport (spoiled errors c) q (Fault q (preamble_cell (q + 64 * n)) Preamble)

abbrev pub FirstPreambleErrorEndsTheCandidate : Type 0
FirstPreambleErrorEndsTheCandidate =
    (errors : Errors) (q : ℕ) (c : List Level) (b : List (List Bool)) (s : Level)
    → IsOne errors Changed (preamble_cell q) → StandsClosed b s (drop q c)
    → (r : Report) → Contains (reports (spoiled errors c)) r → place_of r ≢ q

-- one wrong parity bit in its subframe n, as a block of which one subframe is wrong
abbrev pub WrongParityIsMarked : Type 0
WrongParityIsMarked =
    (errors : Errors) (q n : ℕ) (c : List Level) (b : List (List Bool)) (s : Level)
    → IsOne errors Inverted (parity_cell (q + 64 * n))
    → StandsClosed b s (drop q c) → n < block_subframes
    → IsTheReport (spoiled errors c) q (Marked q s 1)

-- what a report becomes where the last cell of a subframe, cell k, and all behind have the other level: a block that
-- holds it is marked, and the level before those behind it is the other one
abbrev pub with_wrong_parity : ℕ → Report → Report
with_wrong_parity k (Whole at s b) =
    if nat_lt k at then Whole at (other s) b else (if nat_lt k (at + block_len) then Marked at s 1 else Whole at s b)
with_wrong_parity k (Marked at s wrong) = Marked at s wrong
with_wrong_parity k (Fault at cell why) = Fault at cell why
with_wrong_parity k (Unfinished at cells) = Unfinished at cells

-- of a piece of a lawful stream one wrong parity bit makes no other report of any
abbrev pub WrongParityMarksItsBlock : Type 0
WrongParityMarksItsBlock =
    (errors : Errors) (s : Level) (bs : List (List (List Bool))) (i j : ℕ) (c : List Level) → IsPiece s bs i j c
    → (k : ℕ) → IsOne errors Inverted k → k < length c → (i + k) % 64 ≡ parity_cell 0
    → reports (spoiled errors c) ≡ map (with_wrong_parity k) (reports c)

-- the errors of a wrong check byte in the block at place q, and no other
pub record AreCheckErrors (errors : Errors) (q : ℕ) : Type 0 where
  pub list : errors_of errors ≡ check_errors q
  pub every : errors.every ≡ None

-- where a block stands closed at place q of any cells, they make it another block, which is told whole: the one with
-- the other channel status bit, bit 26 of the payload, in channel 1 of frame 184
abbrev pub CheckByteErrorTurnsItsBit : Type 0
CheckByteErrorTurnsItsBit =
    (errors : Errors) (q : ℕ) (c : List Level) (b : List (List Bool)) (s : Level) → AreCheckErrors errors q
    → StandsClosed b s (drop q c)
    → IsTheReport (spoiled errors c) q (Whole q s (inverted_in (2 * 184) 26 b))
