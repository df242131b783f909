use Rattle.std.proofs.Common.{rules}
use Rattle.aes3_cell.proofs.standard.StdSinkSink.failures.Goals as goal

pub returns : goal.returns
returns g c = search rules
