use Rattle.std.proofs.Common.{rules}
use Rattle.aes3_cell.proofs.failing.FailingSource.new.Goals as goal

pub returns-clause-bytes : goal.returns-clause-bytes
returns-clause-bytes c = search rules
