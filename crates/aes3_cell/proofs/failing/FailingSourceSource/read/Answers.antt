use Rattle.std.proofs.Common.{rules}
use Rattle.aes3_cell.proofs.failing.FailingSourceSource.read.Goals as goal

pub returns-then-self-eq0-clause-end : goal.returns-then-self-eq0-clause-end
returns-then-self-eq0-clause-end c = search rules

pub returns-then-self-eq0-clause-no_failure : goal.returns-then-self-eq0-clause-no_failure
returns-then-self-eq0-clause-no_failure c = search rules

pub returns-then-self-eq0-clause-fails : goal.returns-then-self-eq0-clause-fails
returns-then-self-eq0-clause-fails c = search rules
