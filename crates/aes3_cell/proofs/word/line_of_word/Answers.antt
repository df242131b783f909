use Rattle.std.proofs.Common.{rules}
use Rattle.aes3_cell.proofs.word.line_of_word.Goals as goal

pub returns : goal.returns
returns c = search rules
