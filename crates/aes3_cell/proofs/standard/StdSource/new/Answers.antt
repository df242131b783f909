use Rattle.std.proofs.Common.{rules}
use Rattle.aes3_cell.proofs.standard.StdSource.new.Goals as goal

pub returns-clause-open : goal.returns-clause-open
returns-clause-open g c = search rules
