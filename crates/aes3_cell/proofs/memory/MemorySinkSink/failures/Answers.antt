use Rattle.std.proofs.Common.{rules}
use Rattle.aes3_cell.proofs.memory.MemorySinkSink.failures.Goals as goal

pub returns : goal.returns
returns c = search rules
