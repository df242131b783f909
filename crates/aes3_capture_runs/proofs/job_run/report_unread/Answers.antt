use Rattle.std.proofs.Common.{refl, subst, sym}
use Rattle.aes3_input.specs.Running.{movement_of}
use Rattle.aes3_capture_runs.specs.Runs.{UnreadSaid}
use Rattle.aes3_cli.specs.declared.unread.Unread.{Unread}
use Rattle.aes3_capture_runs.proofs.job_run.report_unread.Goals as goal

pub returns-in-NotUtf8-clause-said : goal.returns-in-NotUtf8-clause-said
returns-in-NotUtf8-clause-said g c =
    let messages = movement_of g.E.Sink.taken g.E.Sink.failed c.args.messages.now c.say.new.messages in
    subst (λ (fault : Unread). UnreadSaid fault messages 2) (sym c.in-NotUtf8.is) (refl, c.say.ensures.text)
