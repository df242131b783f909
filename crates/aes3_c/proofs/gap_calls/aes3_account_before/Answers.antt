use Rattle.std.proofs.Common.{sym, subst, rules}
use Rattle.aes3_lock.specs.declared.report.Report.{Report}
use Rattle.aes3_lock_gaps.specs.Told.{ComesNext}
use Rattle.aes3_c.proofs.GapCalls.{ending-told, none-told, report-kept, some-kind, tells-kept, tells-same}
use Rattle.aes3_c.proofs.gap_calls.aes3_account_before.Goals as goal

pub returns-in_default-clause-report : goal.returns-in_default-clause-report
returns-in_default-clause-report c = λ _ block x is cells e t n.
    none-told block c.args.report.now x c.ending_of.result (c.ending_of.ensures block) c.in_default.is is

pub returns-in-Some-next-clause-gap : goal.returns-in-Some-next-clause-gap
returns-in-Some-next-clause-gap c = λ _ block x is cells e t n.
    let same = ending-told block c.args.report.now x c.ending_of.result c.in-Some.ending
    (c.ending_of.ensures block) c.in-Some.is is in
    tells-kept e c.keep_account.ensures c.put_gap.ensures.gap
    (c.before-next.ensures.gap c.in-Some-next.told c.in-Some-next.is block cells e
    (tells-same c.account_of-state.ensures t)
    (search (rules, subst (λ (y : Report). ComesNext cells e y) (sym same) n)))

pub returns-in-Some-next-clause-none : goal.returns-in-Some-next-clause-none
returns-in-Some-next-clause-none c = λ k.
    some-kind c.args.report.now c.ending_of.result c.in-Some.ending c.ending_of.ensures c.in-Some.is k

pub returns-in-Some-next-clause-unchanged : goal.returns-in-Some-next-clause-unchanged
returns-in-Some-next-clause-unchanged c = λ k.
    some-kind c.args.report.now c.ending_of.result c.in-Some.ending c.ending_of.ensures c.in-Some.is k

pub returns-in-None-clause-report : goal.returns-in-None-clause-report
returns-in-None-clause-report c = λ _ block x is cells e t n.
    let same = ending-told block c.args.report.now x c.ending_of.result c.in-Some.ending
    (c.ending_of.ensures block) c.in-Some.is is in
    report-kept e c.keep_account.ensures same
    (search (
      rules,
      c.before-next.ensures.report c.in-None.is block cells e
          (tells-same c.account_of-state.ensures t)
          (search (rules, subst (λ (y : Report). ComesNext cells e y) (sym same) n)),
    ))

pub returns-in-None-clause-unchanged : goal.returns-in-None-clause-unchanged
returns-in-None-clause-unchanged c = λ k.
    some-kind c.args.report.now c.ending_of.result c.in-Some.ending c.ending_of.ensures c.in-Some.is k
