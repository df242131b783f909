use Rattle.std.proofs.Common.{◌-◌, ap, ◌∙◌}
use Rattle.aes3_frame.specs.Blocks.{block_len}
use Rattle.aes3_lock_gaps.proofs.Telling.{while_open, gap-passed, all-passed, due-is}
use Rattle.aes3_lock_gaps.proofs.account.Account.passed.Goals as goal

pub returns-clause-gap : goal.returns-clause-gap
returns-clause-gap c = λ g e cells d told t q s.
    let n = c.next.ensures in
    gap-passed c.next.new.self cells d c.passed.result g
    (due-is c.passed.result (while_open cells) (c.passed.ensures.to ∙ ap (λ m. m - block_len) s) c.passed.ensures.short)
    (n.gap g e) (n.place g e) n.found t q

pub returns-clause-all : goal.returns-clause-all
returns-clause-all c = λ e cells d told t q s.
    all-passed cells d c.passed.result
    (due-is c.passed.result (while_open cells) (c.passed.ensures.to ∙ ap (λ m. m - block_len) s) c.passed.ensures.short)
    (c.next.ensures.none e) t q
