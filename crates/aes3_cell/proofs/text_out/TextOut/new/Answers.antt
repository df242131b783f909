use Rattle.std.proofs.Common.{rules}
use Rattle.aes3_cell.proofs.text_out.TextOut.new.Goals as goal

pub returns-clause-start : goal.returns-clause-start
returns-clause-start c = search rules
