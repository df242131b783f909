use Rattle.std.proofs.Common.{rules}
use Rattle.aes3_cell.proofs.endless.EndlessSource.new.Goals as goal

pub returns-clause-left : goal.returns-clause-left
returns-clause-left c = search rules
