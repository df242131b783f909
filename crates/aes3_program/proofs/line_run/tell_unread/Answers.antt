use Rattle.std.proofs.Common.{◌≡◌, Result, Ok, Err, IfOk, OnErr, refl, arith}
use Rattle.aes3_cell.specs.Ends.{Grew}
use Rattle.aes3_input.specs.Running.{Movement, Quiet, Failed}
use Rattle.aes3_program.specs.Lines.{not_utf8_text}
use Rattle.aes3_program.specs.WordRuns.{UnreadTold}
use Rattle.aes3_cli.specs.declared.unread.Unread.{Unread}
use Rattle.aes3_cli.specs.declared.unread.Unread.TheVariants.{NotUtf8, Memory}
use Rattle.aes3_program.proofs.line_run.tell_unread.Goals as goal

pub returns-in-NotUtf8-clause-told : goal.returns-in-NotUtf8-clause-told
returns-in-NotUtf8-clause-told g c
    = not-utf8 c.args.fault _ c.in-NotUtf8.is
    (λ q. quietly c.put_text.result _ c.put_text.ensures.text c.put_text.ensures.err q)
  where
    not-utf8 : (fault : Unread) (errors : Movement) → fault ≡ NotUtf8
        → (Quiet errors → Grew errors.old errors.new not_utf8_text) → UnreadTold fault errors 2
    not-utf8 NotUtf8 errors e h = (refl, h)
    not-utf8 Memory errors e h = cc

    quietly : {A B : Type 0} (r : Result A B) (errors : Movement)
        → IfOk r (λ (u : A). Grew errors.old errors.new not_utf8_text) → OnErr r (Failed errors) → Quiet errors
        → Grew errors.old errors.new not_utf8_text
    quietly (Ok u) errors g e q = g
    quietly (Err x) errors g e q = absurd (omega arith)
