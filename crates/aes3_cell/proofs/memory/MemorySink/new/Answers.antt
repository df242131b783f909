use Rattle.std.proofs.Common.{rules}
use Rattle.aes3_cell.proofs.memory.MemorySink.new.Goals as goal

pub returns-clause-fresh : goal.returns-clause-fresh
returns-clause-fresh c = search rules
