use Rattle.std.proofs.Common.{rules}
use Rattle.aes3_cell.proofs.packed_in.is_rightly_padded.Goals as goal

pub returns-then-unused-lt8 : goal.returns-then-unused-lt8
returns-then-unused-lt8 c = search rules
