use Rattle.std.proofs.Common.{ap, ◌∙◌, rules}
use Rattle.aes3_cli_hints.specs.declared.hints.Terminals.{Terminals}
use Rattle.aes3_cli_hints.specs.Sentences.{reads_hint, writes_hint}
use Rattle.aes3_cli_hints.proofs.Telling.{two-told}
use Rattle.aes3_cli_hints.proofs.hints.HintsObserver.begins.Goals as goal

pub returns-clause-told : goal.returns-clause-told
returns-clause-told g c = λ on quiet.
    let same = c.tell.ensures.terminals in
    two-told c.tell.ensures.told c.tell-2.ensures.told (ap (λ (t : Terminals). t.errors) same)
    c.tell-2.ensures.failed (c.reads_hint.ensures ∙ ap reads_hint (search rules))
    (c.writes_hint.ensures ∙ ap (λ (t : Terminals). writes_hint t.output c.args.job.now) same) on quiet
