use Rattle.std.proofs.Common.{arith}
use Rattle.aes3_lock_gaps.proofs.Telling.{at_end, gap-at-end, all-at-end, due-is}
use Rattle.aes3_lock_gaps.proofs.account.Account.end.Goals as goal

pub returns-clause-gap : goal.returns-clause-gap
returns-clause-gap c = λ g e cells told t q s.
    let n = c.next.ensures in
    gap-at-end c.next.new.self c.end.result g
    (due-is c.end.result (at_end cells) (omega (arith, c.end.ensures.to, s)) c.end.ensures.short)
    (n.gap g e) (n.place g e) n.found t q

pub returns-clause-all : goal.returns-clause-all
returns-clause-all c = λ e cells told t q s.
    all-at-end c.end.result
    (due-is c.end.result (at_end cells) (omega (arith, c.end.ensures.to, s)) c.end.ensures.short)
    (c.next.ensures.none e) t q
