-- Blocks of 192 frames, as their 384 payloads in order of transmission.
use Rattle.std.specs.Prelude.{ℕ, List, Bool, false, length, ◌≡◌, ◌*◌, map, replicate}
use Rattle.std.specs.List.{flat_map, All}
use Rattle.aes3_level.specs.declared.level.Level.{Level}
use Rattle.aes3_level.specs.Cells.{line}
use Rattle.aes3_slot.specs.Slots.{payload_len, IsPayload, with_parity, runs_of}
unfoldable pub use Rattle.aes3_slot.specs.Slots.{mark_at}

-- how many subframes and how many cells a block has
unfoldable pub block_subframes : ℕ
block_subframes = 384

unfoldable pub block_len : ℕ
block_len = 64 * block_subframes

pub record IsBlock (b : List (List Bool)) : Type 0 where
  pub count : length b ≡ block_subframes
  pub payloads : All IsPayload b

-- the block all of whose bits are 0
unfoldable pub zero_block : List (List Bool)
zero_block = replicate block_subframes (replicate payload_len false)

-- the runs of a block, its cells after level s, and the cells of blocks one behind the other
abbrev pub block_runs : List (List Bool) → List ℕ
block_runs b = runs_of mark_at (map with_parity b)

unfoldable pub block_cells : Level → List (List Bool) → List Level
block_cells s b = line s (block_runs b)

unfoldable pub stream : Level → List (List (List Bool)) → List Level
stream s bs = line s (flat_map block_runs bs)
