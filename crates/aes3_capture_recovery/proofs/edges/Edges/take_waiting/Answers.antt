use Rattle.std.proofs.Common.{rules}
use Rattle.aes3_capture_recovery.proofs.edges.Edges.take_waiting.Goals as goal

pub returns-clause-none : goal.returns-clause-none
returns-clause-none c = search rules
