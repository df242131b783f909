use Rattle.std.proofs.Common.{◌∙◌, Bool, IsTrue, refl, subst, sym}
use Rattle.aes3_cli_jobs.specs.Hearing.{Hearing}
use Rattle.aes3_program_terminal.proofs.Explaining.{explained, job-is}
use Rattle.aes3_program_terminal.proofs.explained.run_and_explain.Goals as goal

pub returns-clause-explained : goal.returns-clause-explained
returns-clause-explained g c = λ on none quiet three.
    let hints = c.args.hints.now in
    let before : Hearing = record { job = hints.job; refusal = hints.refusal; terminal = hints.terminals.errors } in
    let ran = c.run_line-ran.ensures.aside in
    let heard = ran.aside.observed.heard before (refl, refl, refl) in
    let still = subst (λ (b : Bool). IsTrue b) (sym heard.2) on in
    explained ran.refused hints.refusal _ _ heard.1 ran.aside.refusal three (c.explain.ensures.told still quiet)

pub returns-clause-begun : goal.returns-clause-begun
returns-clause-begun g c =
    let hints = c.args.hints.now in
    let before : Hearing = record { job = hints.job; refusal = hints.refusal; terminal = hints.terminals.errors } in
    let heard = c.run_line-ran.ensures.aside.aside.observed.heard before (refl, refl, refl) in
    job-is c.args.line hints.job (c.explain.ensures.job ∙ heard.0)
