use Rattle.std.proofs.Common.{rules}
use Rattle.aes3_cell.proofs.holding.HoldingSink.new.Goals as goal

pub invariant_of-result : goal.invariant_of-result
invariant_of-result c = search rules
