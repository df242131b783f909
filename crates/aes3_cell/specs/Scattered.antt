-- Cells that stand among other bytes, by a number's bits.
use Rattle.std.specs.Prelude.{ℕ, zero, suc, List, [], ◌∷◌, ◌++◌, ◌≡◌, ◌<◌, ◌%◌, ◌/◌, ◌^◌, ◌==◌, ◌||◌, Bool, length, if◌then◌else◌}
use Rattle.aes3_level.specs.declared.level.Level.{Level}
use Rattle.aes3_level.specs.Words.{level_of, low_cells}

-- one cell or none
abbrev pub cell_if : ℕ → ℕ → List Level
cell_if kept level = if kept == 1 then level_of level ∷ [] else []

-- of the lowest n bits of `levels` those that are ones of `kept`, as cells
unfoldable pub kept_cells : ℕ → ℕ → ℕ → List Level
kept_cells zero kept levels = []
kept_cells (suc n) kept levels = cell_if (kept % 2) (levels % 2) ++ kept_cells n (kept / 2) (levels / 2)

-- a number is that of cells, the first in the lowest bit
pub record Holds (cells : List Level) (word : ℕ) : Type 0 where
  pub cells_of : low_cells (length cells) word ≡ cells
  pub bound : word < 2 ^ length cells

-- LF, CR and space
abbrev pub is_separator : ℕ → Bool
is_separator byte = byte == 10 || (byte == 13 || byte == 32)
