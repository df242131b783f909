use Rattle.std.proofs.Common.{rules}
use Rattle.aes3_capture_recovery.proofs.line_follower.LineFollower.finish.Goals as goal

pub returns-clause-cells : goal.returns-clause-cells
returns-clause-cells g c = search rules
