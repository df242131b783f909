use Rattle.std.proofs.Common.{rules}
use Rattle.aes3_cell.proofs.failing.FailingSinkSink.write.Goals as goal

pub returns-clause-calls : goal.returns-clause-calls
returns-clause-calls c = search rules
