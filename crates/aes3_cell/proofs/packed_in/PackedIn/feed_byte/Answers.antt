use Rattle.std.proofs.Common.{rules}
use Rattle.aes3_cell.proofs.packed_in.PackedIn.feed_byte.Goals as goal

pub returns-clause-answer : goal.returns-clause-answer
returns-clause-answer c = search rules
