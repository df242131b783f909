-- Lines of 64 cells in cell text, as they are looked for from any byte on.
use Rattle.std.specs.Prelude.{ℕ, List, ◌≡◌, ◌+◌, ◌-◌, ◌<◌, length, take, drop, get_or}
use Rattle.aes3_cell.specs.CellText.{kind_of, separator, cells_of_text}

-- a line of 64 cells begins at a place of a piece: a line feed stands before it, and a separator behind its cells
pub record LineBegins (piece : List ℕ) (at : ℕ) : Type 0 where
  pub behind : 0 < at
  pub feed : get_or piece (at - 1) 0 ≡ 10
  pub cells : length (cells_of_text (take 64 (drop at piece))) ≡ 64
  pub ends : kind_of (get_or piece (at + 64) 0) ≡ separator
