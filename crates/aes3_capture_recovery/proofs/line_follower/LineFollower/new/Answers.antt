use Rattle.std.proofs.Common.{[], rules, Some}
use Rattle.aes3_capture_recovery.specs.declared.line_follower.LineFollower.{LineFollower}
use Rattle.aes3_capture_recovery.proofs.Followed.{followed-first, queued-none}
use Rattle.aes3_capture_recovery.proofs.line_follower.LineFollower.new.Goals as goal

pub returns-clause-begins : goal.returns-clause-begins
returns-clause-begins c = λ begun short.
    let made : LineFollower
    = record { edges = c.args.edges; follower = c.args.follower; queue = c.new.result; cells = 0 } in
    followed-first (Some begun) begun [] made (queued-none begun made c.new.ensures.none) short

pub returns-clause-form : goal.returns-clause-form
returns-clause-form c = search rules
