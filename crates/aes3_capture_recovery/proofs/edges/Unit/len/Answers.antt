use Rattle.std.proofs.Common.{rules}
use Rattle.aes3_capture_recovery.proofs.edges.Unit.len.Goals as goal

pub returns-in-Pairs-clause-few : goal.returns-in-Pairs-clause-few
returns-in-Pairs-clause-few c = search rules
