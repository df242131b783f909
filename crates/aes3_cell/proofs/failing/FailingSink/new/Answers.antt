use Rattle.std.proofs.Common.{rules}
use Rattle.aes3_cell.proofs.failing.FailingSink.new.Goals as goal

pub invariant_of-result : goal.invariant_of-result
invariant_of-result c = search rules

pub returns-clause-start : goal.returns-clause-start
returns-clause-start c = search rules
