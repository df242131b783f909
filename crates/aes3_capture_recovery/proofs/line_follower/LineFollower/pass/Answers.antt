use Rattle.std.proofs.Common.{rules}
use Rattle.aes3_capture_recovery.proofs.line_follower.LineFollower.pass.Goals as goal

pub returns-clause-told : goal.returns-clause-told
returns-clause-told g c = search rules
