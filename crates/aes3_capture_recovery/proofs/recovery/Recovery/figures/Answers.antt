use Rattle.std.proofs.Common.{rules}
use Rattle.aes3_capture_recovery.proofs.recovery.Recovery.figures.Goals as goal

pub returns-then-self-clause-measured : goal.returns-then-self-clause-measured
returns-then-self-clause-measured c = search rules

pub returns-else-self-clause-measured : goal.returns-else-self-clause-measured
returns-else-self-clause-measured c = search rules
