-- Cells of one level, and cells as they are written at the end.
use Rattle.std.specs.Prelude.{ℕ, List, [], ◌∷◌, ◌++◌, Bool, true, false}
use Rattle.aes3_level.specs.declared.level.Level.{Level}
use Rattle.aes3_level.specs.declared.level.Level.TheVariants.{Low, High}
use Rattle.aes3_cell.specs.declared.form.Form.{Form}
use Rattle.aes3_cell.specs.declared.form.Form.TheVariants.{Text, Packed}
use Rattle.aes3_cell.specs.Text.{line_text, text_of}
use Rattle.aes3_cell.specs.Packed.{packed_of}
use Rattle.aes3_cell.specs.Pending.{begun_cells}

-- the level of a line that is high or not
abbrev pub level_if : Bool → Level
level_if true = High
level_if false = Low

-- all cells as they are written at the end: in text a last line has those that are left
abbrev pub last_line : List Level → List ℕ
last_line [] = []
last_line (level ∷ cells) = line_text (level ∷ cells)

-- what ends the cells: those of a word that is not whole
abbrev pub ending_of : Form → List Level → List ℕ
ending_of Text cells = last_line cells
ending_of Packed cells = packed_of cells

unfoldable pub finished : Form → List Level → List ℕ
finished Text cells = text_of cells ++ last_line (begun_cells cells)
finished Packed cells = packed_of cells
