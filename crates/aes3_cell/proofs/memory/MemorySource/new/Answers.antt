use Rattle.std.proofs.Common.{rules}
use Rattle.aes3_cell.proofs.memory.MemorySource.new.Goals as goal

pub returns-clause-start : goal.returns-clause-start
returns-clause-start c = search rules
