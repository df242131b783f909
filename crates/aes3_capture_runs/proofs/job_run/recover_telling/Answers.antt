use Rattle.std.proofs.Common.{◌∙◌, ap, refl, sym}
use Rattle.aes3_capture_runs.proofs.Telling.{due-apart, ran-joined, ran-none, told-more, told-none, told-or-same, told-same}
use Rattle.aes3_capture_runs.proofs.job_run.recover_telling.Goals as goal
use Rattle.aes3_capture_runs.proofs.job_run.recover_telling.Goals.{then-is_telling_due+else-not-say_figures, else-is_telling_due}

pub tells-init : goal.tells-init
tells-init g c = record {
  source = refl;
  sink = refl;
  messages = refl;
  passed = λ h. h;
  messages_passed_on = λ h. h;
  asked = λ h. h;
  text = told-none refl;
  read = ran-none c.args.unit (g.S.Source.given c.args.source.now) (g.S.Source.has_ended c.args.source.now)
      g.T.Sink.taken c.args.recovery.now c.args.sink.now;
}

pub returns-in_default-clause-read : goal.returns-in_default-clause-read
returns-in_default-clause-read g c = ran-joined _ c.tells.invariant.read c.in_default.ensures.read

pub returns-in_default-2-clause-read : goal.returns-in_default-2-clause-read
returns-in_default-2-clause-read g c = ran-joined _ c.tells.invariant.read c.recover.ensures.read

pub returns-then-not-say_figures-clause-read : goal.returns-then-not-say_figures-clause-read
returns-then-not-say_figures-clause-read g c =
    ran-joined _ (ran-joined _ c.tells.invariant.read (rw c.in-Ok-Paused.field-0-is at c.in-Ok-Paused.ensures.read))
    c.recover-then-not-say_figures.ensures.read

pub returns-then-not-say_figures-clause-text : goal.returns-then-not-say_figures-clause-text
returns-then-not-say_figures-clause-text g c =
    let v = c.tells.invariant in
    λ quiet. told-or-same c.figures-figures.result
    (λ none. due-apart c.if-is_telling_due.true (c.is_telling_due.ensures (v.asked none))) v.text
    (c.say_figures.ensures.text (quiet ∙ sym v.messages))

pub tells-preserved : goal.tells-preserved
tells-preserved g c =
    let v = c.tells.invariant in
    let paused = c.in-Ok-Paused.ensures in
    record {
      source = paused.source_count ∙ v.source;
      sink = paused.sink_count ∙ v.sink;
      messages = elim c.if-is_telling_due.branch [
        | then-is_telling_due+else-not-say_figures w ↦
            ap g.E.Sink.failed w.messages-is ∙ w.if-not-say_figures.ensures.said refl ∙ v.messages
        | else-is_telling_due w ↦ ap g.E.Sink.failed w.messages-is ∙ v.messages
      ];
      passed = λ h. paused.passed;
      messages_passed_on = λ h. elim c.if-is_telling_due.branch [
        | then-is_telling_due+else-not-say_figures w ↦
            ap g.E.Sink.passed w.messages-is
            ∙ w.say_figures.ensures.messages_passed_on (v.messages_passed_on h) (w.if-not-say_figures.ensures.said refl)
            ∙ sym (ap g.E.Sink.taken w.messages-is)
        | else-is_telling_due w ↦
            ap g.E.Sink.passed w.messages-is ∙ v.messages_passed_on h ∙ sym (ap g.E.Sink.taken w.messages-is)
      ];
      asked = λ none. elim c.if-is_telling_due.branch [
        | then-is_telling_due+else-not-say_figures w ↦ w.until-is ∙ w.next_telling-until.ensures.none (v.asked none)
        | else-is_telling_due w ↦ w.until-is ∙ v.asked none
      ];
      text = elim c.if-is_telling_due.branch [
        | then-is_telling_due+else-not-say_figures w ↦
            let told = w.if-not-say_figures.ensures.line refl in
            told-same (ap g.E.Sink.taken w.messages-is)
            (told-more c.figures-figures.result told.0
            (λ none. due-apart w.if-is_telling_due.true (c.is_telling_due.ensures (v.asked none))) told.1 v.text told.2)
        | else-is_telling_due w ↦ told-same (ap g.E.Sink.taken w.messages-is) v.text
      ];
      read = ran-joined _ v.read (rw c.in-Ok-Paused.field-0-is at paused.read);
    }

pub returns-clause-read : goal.returns-clause-read
returns-clause-read g c = ran-joined _ c.tells.invariant.read c.recover-2.ensures.read
