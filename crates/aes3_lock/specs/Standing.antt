-- Blocks that stand at the start of a list of cells.
use Rattle.std.specs.Prelude.{List, ◌++◌, Bool, length, ◌≡◌, ◌≢◌, ◌<◌, ◌-◌, take}
use Rattle.aes3_level.specs.declared.level.Level.{Level}
use Rattle.aes3_level.specs.Cells.{line}
use Rattle.aes3_slot.specs.Slots.{runs_of}
use Rattle.aes3_slot.specs.Rules.{at, Each28}
use Rattle.aes3_frame.specs.Blocks.{mark_at, block_subframes, block_len, block_cells, IsBlock}

-- the cells end behind a block's number of cells, or the next one differs from the last of them
pub record IsClosed (c : List Level) : Type 0 where
  pub turns : block_len < length c → at c block_len ≢ at c (block_len - 1)

-- block b stands at the start after level s, and is closed
pub record StandsClosed (b : List (List Bool)) (s : Level) (c : List Level) : Type 0 where
  pub block : IsBlock b
  pub cells : take block_len c ≡ block_cells s b
  pub closed : IsClosed c

-- the subframes of a block stand at the start after level s with these bits, whether their parity bits are right or
-- wrong
pub record SubframesStand (slots : List (List Bool)) (s : Level) (c : List Level) : Type 0 where
  pub count : length slots ≡ block_subframes
  pub each : Each28 slots
  pub cells : take block_len c ≡ line s (runs_of mark_at slots)

-- the cells are a front of a block's subframes after level s, whether their parity bits are right or wrong
pub record IsViable (s : Level) (c : List Level) : Type 0 where
  pub slots : List (List Bool)
  pub count : length slots ≡ block_subframes
  pub each : Each28 slots
  pub rest : List Level
  pub is : line s (runs_of mark_at slots) ≡ c ++ rest
