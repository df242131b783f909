use Rattle.std.proofs.Common.{sym, rules}
use Rattle.aes3_lock.proofs.LastEight.{last_eight-nil}
use Rattle.aes3_lock.proofs.Following.{follows-nil}
use Rattle.aes3_lock.proofs.lock.Lock.new.Goals as goal

pub returns : goal.returns
returns c = follows-nil _ (search rules) (search (rules, sym last_eight-nil)) (search rules)
