use Rattle.std.proofs.Common.{rules}
use Rattle.aes3_cell.proofs.cell_text.CellText.take_front.Goals as goal

pub returns-then-taken-gt0-clause-within : goal.returns-then-taken-gt0-clause-within
returns-then-taken-gt0-clause-within c = search rules
