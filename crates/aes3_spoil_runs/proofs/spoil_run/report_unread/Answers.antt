use Rattle.std.proofs.Common.{◌≡◌, Result, Ok, Err, IfOk, OnErr, refl, arith}
use Rattle.aes3_cell.specs.Ends.{Grew}
use Rattle.aes3_input.specs.Running.{Movement, Quiet, Failed}
use Rattle.aes3_spoil_runs.specs.Lines.{not_utf8_text}
use Rattle.aes3_spoil_runs.specs.Runs.{UnreadReported}
use Rattle.aes3_cli.specs.declared.unread.Unread.{Unread}
use Rattle.aes3_cli.specs.declared.unread.Unread.TheVariants.{NotUtf8, Memory}
use Rattle.aes3_spoil_runs.proofs.spoil_run.report_unread.Goals as goal

pub returns-in-NotUtf8-clause-reported : goal.returns-in-NotUtf8-clause-reported
returns-in-NotUtf8-clause-reported g c
    = not-utf8 c.args.fault _ c.in-NotUtf8.is
    (λ q. quietly c.put_text.result _ c.put_text.ensures.text c.put_text.ensures.err q)
  where
    not-utf8 : (fault : Unread) (messages : Movement) → fault ≡ NotUtf8
        → (Quiet messages → Grew messages.old messages.new not_utf8_text) → UnreadReported fault messages 2
    not-utf8 NotUtf8 messages e h = (refl, h)
    not-utf8 Memory messages e h = cc

    quietly : {A B : Type 0} (r : Result A B) (messages : Movement)
        → IfOk r (λ (u : A). Grew messages.old messages.new not_utf8_text) → OnErr r (Failed messages) → Quiet messages
        → Grew messages.old messages.new not_utf8_text
    quietly (Ok u) messages g e q = g
    quietly (Err x) messages g e q = absurd (omega arith)
