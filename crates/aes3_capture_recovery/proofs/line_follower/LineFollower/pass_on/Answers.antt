use Rattle.std.proofs.Common.{rules}
use Rattle.aes3_capture_recovery.proofs.line_follower.LineFollower.pass_on.Goals as goal

pub returns-clause-few : goal.returns-clause-few
returns-clause-few g c = search rules
