use Rattle.std.proofs.Common.{rules}
use Rattle.aes3_cell.proofs.text_out.TextOut.failed.Goals as goal

pub returns : goal.returns
returns c = search rules
