-- What the definitions of the command line take.
use Rattle.std.proofs.Common.{◌≡◌, refl, true}
use Rattle.clap.specs.Faults.{is_simple_and_free}
use Rattle.aes3_capture_runs.specs.CellsLine.{cells_line}

pub line_is_free : is_simple_and_free cells_line ≡ true
line_is_free = refl
