use Rattle.std.proofs.Common.{rules}
use Rattle.aes3_cell.proofs.standard.StdSourceSource.read.Goals as goal

pub returns-in-Ok-clause-met : goal.returns-in-Ok-clause-met
returns-in-Ok-clause-met g c = search rules

pub returns-in-Err-clause-met : goal.returns-in-Err-clause-met
returns-in-Err-clause-met g c = search rules
