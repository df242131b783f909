use Rattle.std.proofs.Common.{arith}
use Rattle.aes3_watch.proofs.Accounts.{less}
use Rattle.aes3_c.proofs.SumCalls.{passed-all, period-passed}
use Rattle.aes3_c.proofs.sum_calls.aes3_sums_passed.Goals as goal

pub returns-then-not-has_ended-clause-all : goal.returns-then-not-has_ended-clause-all
returns-then-not-has_ended-clause-all c = λ t every cells d r put p q s.
    let to = c.saturating_sub.result in
    let some = p.some in
    let i = p.every_is in
    passed-all cells d to p q (less to c.args.seen _ (omega arith) s)
    (c.has_ended.ensures.open c.if-not-has_ended.true (omega (arith, some, i)))

pub returns-clause-sum : goal.returns-clause-sum
returns-clause-sum c = λ t every cells d r put p q s.
    let to = c.saturating_sub.result in
    period-passed c.put_period.new.kept cells d c.put_period.new.sum to p q (less to c.args.seen _ (omega arith) s)
    c.put_period.ensures.state c.put_period.ensures.every c.put_period.ensures.sum
    (c.has_ended.ensures.ended c.if-not-has_ended.false)
