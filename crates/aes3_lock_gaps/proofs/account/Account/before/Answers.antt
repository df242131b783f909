use Rattle.std.proofs.Common.{ap, ◌∙◌}
use Rattle.aes3_lock_gaps.specs.Gaps.{reported}
use Rattle.aes3_lock_gaps.specs.Told.{behind_entry, report_with}
use Rattle.aes3_lock_gaps.proofs.Telling.{gap-before, report-behind}
use Rattle.aes3_lock_gaps.proofs.account.Account.before.Goals as goal

pub returns-then-is_none-clause-report : goal.returns-then-is_none-clause-report
returns-then-is_none-clause-report c = λ e block cells told t next.
    let n = c.next-gap.ensures in
    let x = report_with block c.args.ending in
    report-behind c.take.new.self x c.before_report.result (c.before_report.ensures block) (n.none e)
    (λ near. c.take.ensures.place block near ∙ ap (λ p. behind_entry p (reported x)) (n.left e))
    (λ m f. c.take.ensures.found block m (n.found ∙ f)) t next

pub returns-else-is_none-clause-gap : goal.returns-else-is_none-clause-gap
returns-else-is_none-clause-gap c = λ g e block cells told t next.
    let n = c.next-gap.ensures in
    gap-before c.next-gap.new.self (report_with block c.args.ending) c.before_report.result g
    (c.before_report.ensures block) (n.gap g e) (n.place g e) n.found t next
