use Rattle.std.proofs.Common.{Bool, IsTrue, refl, subst, sym}
use Rattle.aes3_cli_jobs.specs.Hearing.{Hearing}
use Rattle.aes3_program_terminal.proofs.Explaining.{advised, explained}
use Rattle.aes3_program_terminal.proofs.explained.report_unread.Goals as goal

pub returns-clause-explained : goal.returns-clause-explained
returns-clause-explained g c = λ on none quiet three.
    let hints = c.args.hints.now in
    let before : Hearing = record { job = hints.job; refusal = hints.refusal; terminal = hints.terminals.errors } in
    let told = c.tell_unread-status.ensures.aside in
    let heard = told.aside.observed.heard before (refl, refl, refl) in
    let still = subst (λ (b : Bool). IsTrue b) (sym heard.2) on in
    explained told.refused hints.refusal _ _ heard.1 told.aside.refusal three
    (advised _ _ _ (c.explain_unread.ensures.told still quiet))
