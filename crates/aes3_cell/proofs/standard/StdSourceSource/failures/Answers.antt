use Rattle.std.proofs.Common.{rules}
use Rattle.aes3_cell.proofs.standard.StdSourceSource.failures.Goals as goal

pub returns : goal.returns
returns g c = search rules
