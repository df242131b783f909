use Rattle.std.proofs.Common.{rules}
use Rattle.aes3_cell.proofs.packed_in.PackedIn.seen.Goals as goal

pub returns : goal.returns
returns c = search rules
