-- Cells in octets.
use Rattle.std.specs.Prelude.{ℕ, List, drop, take}
use Rattle.aes3_level.specs.declared.level.Level.{Level}
use Rattle.aes3_cell.specs.Packed.{cells_of_octets}

-- `n` cells of octets from cell `first` on
abbrev pub cells_from : List ℕ → ℕ → ℕ → List Level
cells_from octets first n = take n (drop first (cells_of_octets octets))
