use Rattle.std.proofs.Common.{ap}
use Rattle.aes3_cli_hints.specs.declared.hints.Terminals.{Terminals}
use Rattle.aes3_cli_hints.proofs.Telling.{four-told}
use Rattle.aes3_cli_hints.proofs.hints.Hints.tell_advice.Goals as goal

pub returns-clause-told : goal.returns-clause-told
returns-clause-told g c = λ on quiet. four-told c.tell.ensures.told c.tell-2.ensures.told c.tell-3.ensures.told
    c.tell-4.ensures.told (ap (λ (t : Terminals). t.errors) c.tell.ensures.terminals)
    (ap (λ (t : Terminals). t.errors) c.tell-2.ensures.terminals)
    (ap (λ (t : Terminals). t.errors) c.tell-3.ensures.terminals) c.tell-2.ensures.failed c.tell-3.ensures.failed
    c.tell-4.ensures.failed on quiet
