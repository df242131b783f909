use Rattle.std.proofs.Common.{rules}
use Rattle.aes3_cell.proofs.packed_out.PackedOut.new.Goals as goal

pub returns-clause-start : goal.returns-clause-start
returns-clause-start c = search rules
