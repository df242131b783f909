use Rattle.std.proofs.Common.{rules}
use Rattle.aes3_cell.proofs.short.ShortSink.new.Goals as goal

pub returns-clause-most : goal.returns-clause-most
returns-clause-most c = search rules
