use Rattle.std.proofs.Common.{rules}
use Rattle.aes3_capture_recovery.proofs.line_follower.LineFollower.follow.Goals as goal

pub returns-clause-follower : goal.returns-clause-follower
returns-clause-follower c = search rules
