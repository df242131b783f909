use Rattle.std.proofs.Common.{rules}
use Rattle.aes3_input.proofs.taker.word_of_cell.Goals as goal

pub returns-in-Low : goal.returns-in-Low
returns-in-Low c = search rules
