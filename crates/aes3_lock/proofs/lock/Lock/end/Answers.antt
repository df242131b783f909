use Rattle.std.proofs.Common.{[], ◌∷◌, ◌++◌, Some, sym, ap, subst, ◌∙◌}
use Rattle.aes3_lock.specs.Reports.{decided}
use Rattle.aes3_lock.specs.Following.{Follows, HeldBlock, report_in}
use Rattle.aes3_lock.proofs.Following.{finish-none, finish-open}
use Rattle.aes3_lock.proofs.HeldBlocks.{held-end}
use Rattle.aes3_lock.proofs.lock.Lock.end.Goals as goal

pub returns-in_default-clause-report : goal.returns-in_default-clause-report
returns-in_default-clause-report c = λ l f.
    finish-none _ l (subst (λ k. Follows k l) (sym c.self.view_is) f) c.in_default.is

pub returns-clause-report : goal.returns-clause-report
returns-clause-report c = λ l f.
    finish-open _ c.in-Some.candidate l
    (subst (λ k. Follows k l) (sym c.self.view_is) f) c.self.invariant.1 c.in-Some.is
    ∙ ap (λ r. decided l ++ r ∷ []) (sym c.cut_after.ensures
    ∙ ap (λ k. report_in k c.cut_after.result) c.self.view_is)

pub returns-clause-held : goal.returns-clause-held
returns-clause-held c = λ l f.
    subst (λ k. HeldBlock k.words l (Some c.cut_after.result)) c.self.view_is
    (held-end _ c.in-Some.candidate l (subst (λ k. Follows k l) (sym c.self.view_is) f) c.self.invariant.1 c.in-Some.is
    c.cut_after.result c.cut_after.ensures)
