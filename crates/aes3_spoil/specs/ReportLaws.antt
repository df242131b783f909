-- What one error makes of the reports.
use Rattle.std.specs.Prelude.{ℕ, suc, List, Bool, length, ◌≡◌, ◌≢◌, ◌<◌, ◌≤◌, ◌+◌, ◌-◌, ◌%◌, ◌==◌, ◌||◌, nat_lt}
use Rattle.std.specs.Prelude.{if◌then◌else◌, drop}
use Rattle.std.specs.List.{Contains}
use Rattle.aes3_level.specs.declared.level.Level.{Level}
use Rattle.aes3_frame.specs.Blocks.{block_len}
use Rattle.aes3_lock.specs.declared.report.Report.{Report}
use Rattle.aes3_lock.specs.declared.report.Report.TheVariants.{Fault}
use Rattle.aes3_lock.specs.DamageLaws.{LiesInBlock}
use Rattle.aes3_lock.specs.Outcomes.{why_of}
use Rattle.aes3_lock.specs.Pieces.{IsPiece, given_blocks}
use Rattle.aes3_lock.specs.Remains.{after_change, after_loss, place_of}
use Rattle.aes3_lock.specs.Reports.{blocks, reports}
use Rattle.aes3_lock.specs.Standing.{StandsClosed}
use Rattle.aes3_spoil.specs.declared.errors.Errors.{Errors}
use Rattle.aes3_spoil.specs.declared.kinds.ErrorKind.TheVariants.{Changed, Lost}
use Rattle.aes3_spoil.specs.SpoilLaws.{IsOne}
use Rattle.aes3_spoil.specs.Spoiled.{spoiled}

-- whether cell x of a block is determined by those before it: one of a preamble, or the first of a time slot
abbrev pub is_determined : ℕ → Bool
is_determined x = nat_lt (x % 64) 8 || ((x % 2) == 0)

-- the cell at which a block is refuted of which cell x is changed: that cell, or the one behind it where it is the
-- second of a time slot
abbrev pub refuted_at : ℕ → ℕ
refuted_at x = if is_determined x then x else suc x

-- cell k is one of the block that begins at cell q, and none of its first preamble
pub record LiesBehindPreamble (k q : ℕ) : Type 0 where
  pub behind : q + 8 ≤ k
  pub before : k < q + block_len

-- there is this report of place q, and no other of that place
pub record IsTheReport (c : List Level) (q : ℕ) (report : Report) : Type 0 where
  pub there : Contains (reports c) report
  pub only : (r : Report) → Contains (reports c) r → place_of r ≡ q → r ≡ report

-- where a block stands closed at place q of any cells, and one error changes one of its cells behind its first
-- preamble, the report is a fault of that block at the cell that refutes it
abbrev pub ChangedCellIsTheFault : Type 0
ChangedCellIsTheFault =
    (errors : Errors) (k q : ℕ) (c : List Level) (b : List (List Bool)) (s : Level) → IsOne errors Changed k
    → StandsClosed b s (drop q c) → LiesBehindPreamble k q → q + refuted_at (k - q) < length c
    → IsTheReport (spoiled errors c) q (Fault q (q + refuted_at (k - q)) (why_of (refuted_at (k - q))))

-- one changed in the first preamble of a block of a piece of a lawful stream leaves no report of that place
abbrev pub ChangedPreambleEndsTheCandidate : Type 0
ChangedPreambleEndsTheCandidate =
    (errors : Errors) (s : Level) (bs : List (List (List Bool))) (i j : ℕ) (c : List Level) → IsPiece s bs i j c
    → (k q : ℕ) → IsOne errors Changed k → LiesInBlock k q i c → k < q + 8
    → (r : Report) → Contains (reports (spoiled errors c)) r → place_of r ≢ q

-- of a piece of a lawful stream one changed cell takes the block that holds it and the one that ends directly before
-- it, one lost cell the block that held it, and all others are given
abbrev pub ChangedCellTakesItsBlocks : Type 0
ChangedCellTakesItsBlocks =
    (errors : Errors) (s : Level) (bs : List (List (List Bool))) (i j : ℕ) (c : List Level) → IsPiece s bs i j c
    → (k : ℕ) → IsOne errors Changed k → k < length c
    → blocks (spoiled errors c) ≡ given_blocks (after_change (i + k)) bs i j

abbrev pub LostCellTakesItsBlock : Type 0
LostCellTakesItsBlock =
    (errors : Errors) (s : Level) (bs : List (List (List Bool))) (i j : ℕ) (c : List Level) → IsPiece s bs i j c
    → (k : ℕ) → IsOne errors Lost k → k < length c
    → blocks (spoiled errors c) ≡ given_blocks (after_loss (i + k)) bs i j
