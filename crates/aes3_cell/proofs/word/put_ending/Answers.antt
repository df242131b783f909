use Rattle.std.proofs.Common.{rules}
use Rattle.aes3_cell.proofs.word.put_ending.Goals as goal

pub returns-in-Packed : goal.returns-in-Packed
returns-in-Packed g c = search rules
