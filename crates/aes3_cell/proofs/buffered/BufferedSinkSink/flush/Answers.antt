use Rattle.std.proofs.Common.{rules}
use Rattle.aes3_cell.proofs.buffered.BufferedSinkSink.flush.Goals as goal

pub returns-clause-passed_on : goal.returns-clause-passed_on
returns-clause-passed_on g c = search rules
