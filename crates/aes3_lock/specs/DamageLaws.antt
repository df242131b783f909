-- Laws over the definitions: what stays of a piece of a lawful stream of which cells change, are lost or put in.
use Rattle.std.specs.Prelude.{ℕ, suc, List, [], ◌∷◌, Bool, true, length, ◌≡◌, ◌≢◌, ◌<◌, ◌≤◌, ◌+◌, ◌-◌, ◌%◌, ◌↔◌, take}
use Rattle.std.specs.Prelude.{drop}
use Rattle.std.specs.List.{All, Contains}
use Rattle.aes3_level.specs.declared.level.Level.{Level}
use Rattle.aes3_frame.specs.Blocks.{block_len, block_cells, stream, IsBlock}
use Rattle.aes3_lock.specs.declared.report.Report.{Report}
use Rattle.aes3_lock.specs.Damage.{changed, without, inserted, apart, places_apart}
use Rattle.aes3_lock.specs.Remains.{after_change, after_two_changes, after_loss, after_insertion, after_changes}
use Rattle.aes3_lock.specs.Remains.{left_of, place_of, covers}
use Rattle.aes3_lock.specs.Pieces.{IsPiece, given_blocks}
use Rattle.aes3_lock.specs.Reports.{reports, blocks}
use Rattle.aes3_lock.specs.Standing.{StandsClosed}

-- where at most 3 cells of a piece change, blocks stand closed only where one of its stream began; where at most 383
-- do, only where a frame did, and after the level of the stream
abbrev pub FewChangesMakeNoBlock : Type 0
FewChangesMakeNoBlock =
    (s : Level) (bs : List (List (List Bool))) (i j : ℕ) (c e : List Level) → IsPiece s bs i j c → length e ≡ length c
    → apart c e ≤ 3
    → (q : ℕ) (d : List (List Bool)) (t : Level) → StandsClosed d t (drop q e) → (i + q) % block_len ≡ 0

abbrev pub ChangesMakeNoBlockElsewhere : Type 0
ChangesMakeNoBlockElsewhere =
    (s : Level) (bs : List (List (List Bool))) (i j : ℕ) (c e : List Level) → IsPiece s bs i j c → length e ≡ length c
    → apart c e ≤ 383
    → (q : ℕ) (d : List (List Bool)) (t : Level) → StandsClosed d t (drop q e) → ((i + q) % 128 ≡ 0) × (t ≡ s)

-- and the blocks are then those of the piece, each as the changed cells in it and directly behind it leave it
abbrev pub ChangesLeaveTheOthers : Type 0
ChangesLeaveTheOthers =
    (s : Level) (bs : List (List (List Bool))) (i j : ℕ) (c d : List Level) → IsPiece s bs i j c → length d ≡ length c
    → apart c d ≤ 3
    → blocks d ≡ given_blocks (after_changes i c d) bs i j

-- where block b stands closed after level s and any of its cells or the next one change, exactly the block that they
-- leave does
abbrev pub ChangesTellTheBlock : Type 0
ChangesTellTheBlock =
    (b d : List (List Bool)) (s : Level) (c e : List Level) → StandsClosed b s c → length e ≡ length c
    → StandsClosed d s e ↔ (left_of (places_apart 0 (take (suc block_len) c) (take (suc block_len) e)) b ≡ d ∷ [])

-- of a piece with one cell changed all whole blocks are given but one that holds this cell and one that ends directly
-- before it
abbrev pub ChangeLeavesTheOthers : Type 0
ChangeLeavesTheOthers =
    (s : Level) (bs : List (List (List Bool))) (i j : ℕ) (c : List Level) → IsPiece s bs i j c → (k : ℕ) → k < length c
    → blocks (changed k c) ≡ given_blocks (after_change (i + k)) bs i j

-- with two cells changed all but those that hold one or end directly before one; a block in which both are next to each
-- other between two slots is given with the bits of these inverted
abbrev pub TwoChangesLeaveTheOthers : Type 0
TwoChangesLeaveTheOthers =
    (s : Level) (bs : List (List (List Bool))) (i j : ℕ) (c : List Level) → IsPiece s bs i j c → (k l : ℕ) → k < l
    → l < length c
    → blocks (changed l (changed k c)) ≡ given_blocks (after_two_changes (i + k) (i + l)) bs i j

-- with one cell lost all but one that held it
abbrev pub LossLeavesTheOthers : Type 0
LossLeavesTheOthers =
    (s : Level) (bs : List (List (List Bool))) (i j : ℕ) (c : List Level) → IsPiece s bs i j c → (k : ℕ) → k < length c
    → blocks (without k c) ≡ given_blocks (after_loss (i + k)) bs i j

-- of a stream that isn't cut and has one cell put in, all blocks are given but one whose cells it stands between or
-- that it doesn't close; between the cells of the first run of a preamble it stands before the block
abbrev pub InsertionLeavesTheOthers : Type 0
InsertionLeavesTheOthers =
    (s : Level) (bs : List (List (List Bool))) → All IsBlock bs → (k : ℕ) (x : Level) → k ≤ length (stream s bs)
    → blocks (inserted k x (stream s bs)) ≡ given_blocks (after_insertion s k x) bs 0 (length (stream s bs))

-- where the first m cells of a block, 8 or more and not those of its last subframe, are those of a piece from place p
-- on, and the others those from place q on, the places are whole subframes apart: no slip by lost or by inserted cells
-- is bridged
abbrev pub SlipsAreNotBridged : Type 0
SlipsAreNotBridged =
    (s : Level) (bs : List (List (List Bool))) (i j : ℕ) (c : List Level) → IsPiece s bs i j c
    → (d : List (List Bool)) (t : Level) → IsBlock d
    → (m p q : ℕ) → 8 ≤ m → m + 64 ≤ block_len → take m (block_cells t d) ≡ take m (drop p c)
    → drop m (block_cells t d) ≡ take (block_len - m) (drop q c) → (p + m) % 64 ≡ q % 64

-- cell k of a piece is one of a whole block of it that begins at place q
pub record LiesInBlock (k q i : ℕ) (c : List Level) : Type 0 where
  pub start : (i + q) % block_len ≡ 0
  pub whole : q + block_len ≤ length c
  pub behind : q ≤ k
  pub before : k < q + block_len

-- where it changes, behind the preamble of the block, there is a report at this place, and each covers the change: it
-- is marked, or a fault at the cell or behind it
pub record IsReported (k q : ℕ) (c : List Level) : Type 0 where
  pub report : Report
  pub there : Contains (reports c) report
  pub place : place_of report ≡ q
  pub each : (r : Report) → Contains (reports c) r → place_of r ≡ q → covers k r ≡ true

abbrev pub ChangeIsReported : Type 0
ChangeIsReported =
    (s : Level) (bs : List (List (List Bool))) (i j : ℕ) (c : List Level) → IsPiece s bs i j c → (k q : ℕ)
    → LiesInBlock k q i c → q + 8 ≤ k
    → IsReported k q (changed k c)

-- and in its preamble no block begins there, and no report is of this place
abbrev pub ChangeEndsCandidate : Type 0
ChangeEndsCandidate =
    (s : Level) (bs : List (List (List Bool))) (i j : ℕ) (c : List Level) → IsPiece s bs i j c → (k q : ℕ)
    → LiesInBlock k q i c → k < q + 8
    → (r : Report) → Contains (reports (changed k c)) r → place_of r ≢ q
