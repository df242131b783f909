use Rattle.std.proofs.Common.{rules}
use Rattle.aes3_cell.proofs.short.ShortSinkSink.write.Goals as goal

pub returns-clause-most : goal.returns-clause-most
returns-clause-most c = search rules
