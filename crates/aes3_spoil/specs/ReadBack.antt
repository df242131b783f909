-- Cells that are written at the end of a run, and read again.
use Rattle.std.specs.Prelude.{List, ◌≡◌}
use Rattle.aes3_level.specs.declared.level.Level.{Level}
use Rattle.aes3_cell.specs.declared.form.Form.{Form}
use Rattle.aes3_input.specs.Inputs.{IsInput, cells_of}
use Rattle.aes3_capture_recovery.specs.Endings.{finished}

-- what is written of any number of cells is an input, and its cells are these
abbrev pub WrittenCellsAreReadBack : Type 0
WrittenCellsAreReadBack = (form : Form) (c : List Level)
    → IsInput form (finished form c) × (cells_of form (finished form c) ≡ c)
