use Rattle.std.proofs.Common.{rules}
use Rattle.aes3_cell.proofs.cell_text.CellText.seen.Goals as goal

pub returns : goal.returns
returns c = search rules
