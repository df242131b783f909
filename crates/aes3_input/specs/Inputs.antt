-- An input of cells in either form.
use Rattle.std.specs.Prelude.{ℕ, List, ◌≡◌, ◌<◌, length}
use Rattle.aes3_level.specs.declared.level.Level.{Level}
use Rattle.aes3_cell.specs.declared.form.Form.{Form}
use Rattle.aes3_cell.specs.declared.form.Form.TheVariants.{Text, Packed}
use Rattle.aes3_cell.specs.CellText.{good, cells_of_text, IsCellText}
use Rattle.aes3_cell.specs.Packed.{IsPacked, cells_of_packed, whole_cells, last_place}

-- which bytes are an input, and their cells
abbrev pub IsInput : Form → List ℕ → Type 0
IsInput Text b = IsCellText b
IsInput Packed b = IsPacked b

abbrev pub cells_of : Form → List ℕ → List Level
cells_of Text b = cells_of_text b
cells_of Packed b = cells_of_packed b

-- the cells that bytes give whatever comes behind them: those before the first bad byte, or those of all octets but the
-- last two
abbrev pub cells_before : Form → List ℕ → List Level
cells_before Text b = cells_of_text b
cells_before Packed b = whole_cells b

-- none of these bytes is bad
abbrev pub NoBadByte : Form → List ℕ → Type 0
NoBadByte Text b = IsCellText b
NoBadByte Packed b = Unit {0}

-- the first bad byte of cell text stands at this place; octets end wrongly, with the last octet at this place
abbrev pub BadByteAt : Form → List ℕ → ℕ → Type 0
BadByteAt Text b at = (good b ≡ at) × (at < length b)
BadByteAt Packed b at = ⊥

abbrev pub BadEndAt : Form → List ℕ → ℕ → Type 0
BadEndAt Text b at = ⊥
BadEndAt Packed b at = (IsPacked b → ⊥) × (last_place b ≡ at)
