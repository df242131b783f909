-- Laws over the definitions: how far the cells of blocks and of lawful streams are apart.
use Rattle.std.specs.Prelude.{ℕ, suc, List, Bool, true, length, ◌≡◌, ◌≢◌, ◌<◌, ◌≤◌, ◌+◌, ◌%◌, take, drop}
use Rattle.aes3_level.specs.declared.level.Level.{Level}
use Rattle.aes3_level.specs.Cells.{line, other}
use Rattle.aes3_slot.specs.declared.mark.Mark.{Mark}
use Rattle.aes3_slot.specs.Slots.{subframe_runs, IsPayload}
use Rattle.aes3_frame.specs.Blocks.{block_len, block_cells, IsBlock}
use Rattle.aes3_lock.specs.Damage.{changed, apart, high_count, between_slots, exchanged}
use Rattle.aes3_lock.specs.Pieces.{IsPiece}
use Rattle.aes3_lock.specs.Standing.{StandsClosed}

-- from a place of a piece where no block of its stream begins, the cells differ from those of every block at 4 places
-- or more; where no frame begins, and from those of every block after the other level, at 384 or more
abbrev pub FarWhereNoBlockBegins : Type 0
FarWhereNoBlockBegins =
    (s : Level) (bs : List (List (List Bool))) (i j : ℕ) (c : List Level) → IsPiece s bs i j c → (q : ℕ)
    → q + block_len ≤ length c
    → (i + q) % block_len ≢ 0 → (t : Level) (d : List (List Bool)) → IsBlock d
    → 4 ≤ apart (take block_len (drop q c)) (block_cells t d)

abbrev pub FarWhereNoFrameBegins : Type 0
FarWhereNoFrameBegins =
    (s : Level) (bs : List (List (List Bool))) (i j : ℕ) (c : List Level) → IsPiece s bs i j c → (q : ℕ)
    → q + block_len ≤ length c
    → (i + q) % 128 ≢ 0 → (t : Level) (d : List (List Bool)) → IsBlock d
    → 384 ≤ apart (take block_len (drop q c)) (block_cells t d)

abbrev pub FarFromTheOtherLevel : Type 0
FarFromTheOtherLevel =
    (s : Level) (bs : List (List (List Bool))) (i j : ℕ) (c : List Level) → IsPiece s bs i j c → (q : ℕ)
    → q + block_len ≤ length c
    → (t : Level) (d : List (List Bool)) → IsBlock d → t ≢ s → 384 ≤ apart (take block_len (drop q c)) (block_cells t d)

-- a block's cells differ from those of every block after the other level at 3,840 places or more, and after its own
-- level from those of every other block at 2 or more
abbrev pub FarAfterOtherLevel : Type 0
FarAfterOtherLevel =
    (s : Level) (b d : List (List Bool)) → IsBlock b → IsBlock d
    → 3840 ≤ apart (block_cells s b) (block_cells (other s) d)

abbrev pub BlocksAreApart : Type 0
BlocksAreApart =
    (s : Level) (b d : List (List Bool)) → IsBlock b → IsBlock d → b ≢ d → 2 ≤ apart (block_cells s b) (block_cells s d)

-- at just 2 only those of the block with two cells exchanged between slots, and of each such block they do
pub record IsExchanged (b d : List (List Bool)) : Type 0 where
  pub cell : ℕ
  pub within : suc cell < block_len
  pub between : between_slots cell ≡ true
  pub is : d ≡ exchanged cell b

abbrev pub NearestAreExchanged : Type 0
NearestAreExchanged =
    (s : Level) (b d : List (List Bool)) → IsBlock b → IsBlock d → apart (block_cells s b) (block_cells s d) ≡ 2
    → IsExchanged b d

abbrev pub ExchangedHasTheseCells : Type 0
ExchangedHasTheseCells =
    (s : Level) (b : List (List Bool)) (x : ℕ) → IsBlock b → suc x < block_len → between_slots x ≡ true
    → IsBlock (exchanged x b) × (block_cells s (exchanged x b) ≡ changed (suc x) (changed x (block_cells s b)))

-- whether a block stands closed is told by its cells and the next one: whatever happens elsewhere, it stands
abbrev pub BlocksStandByTheirCells : Type 0
BlocksStandByTheirCells =
    (b : List (List Bool)) (s : Level) (c d : List Level) → take (suc block_len) c ≡ take (suc block_len) d
    → StandsClosed b s c → StandsClosed b s d

-- half of the cells of a subframe are high; so where blocks stand in cells and, at the same place, in changed cells, an
-- even number of theirs changed: an odd number always takes the block
abbrev pub SubframesAreBalanced : Type 0
SubframesAreBalanced = (s : Level) (m : Mark) (p : List Bool) → IsPayload p
    → high_count (line s (subframe_runs m p)) ≡ 32

abbrev pub OddChangesTakeTheBlock : Type 0
OddChangesTakeTheBlock =
    (b d : List (List Bool)) (s t : Level) (c e : List Level) → StandsClosed b s c → StandsClosed d t e
    → apart (take block_len c) (take block_len e) % 2 ≡ 0
