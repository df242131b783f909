use Rattle.std.proofs.Common.{rules}
use Rattle.aes3_cell.proofs.ends.Sink.put_many.Goals as goal

pub returns-clause-cells : goal.returns-clause-cells
returns-clause-cells g c = search rules
