use Rattle.std.proofs.Common.{rules}
use Rattle.aes3_capture_recovery.proofs.line_follower.LineFollower.start.Goals as goal

pub returns-clause-high : goal.returns-clause-high
returns-clause-high c = search rules
