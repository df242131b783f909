use Rattle.std.proofs.Common.{arith}
use Rattle.aes3_c.proofs.GapCalls.{tells-kept, tells-same}
use Rattle.aes3_c.proofs.gap_calls.aes3_account_end.Goals as goal

pub returns-in-Some-clause-gap : goal.returns-in-Some-clause-gap
returns-in-Some-clause-gap c = λ _ cells e t q s.
    tells-kept e c.keep_account.ensures c.put_gap.ensures.gap
    (c.end-next.ensures.gap c.in-Some.told c.in-Some.is cells e (tells-same c.account_of-state.ensures t) q
    (omega arith))

pub returns-in-None-clause-all : goal.returns-in-None-clause-all
returns-in-None-clause-all c = λ _ cells e t q s.
    c.end-next.ensures.all c.in-None.is cells e (tells-same c.account_of-state.ensures t) q (omega arith)
