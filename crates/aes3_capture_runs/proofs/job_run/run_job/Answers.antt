use Rattle.std.proofs.Common.{Ok, Err, refl, rules, subst}
use Rattle.aes3_input.specs.Running.{movement_of}
use Rattle.aes3_capture_recovery.specs.declared.edges.Unit.{Unit}
use Rattle.aes3_capture_runs.specs.Runs.{AnswerRan, refusal_text, setting_of}
use Rattle.aes3_capture_runs.proofs.Said.{IsNew, bit-and-lines, done, end-joined, grew-said, refused}
use Rattle.aes3_capture_runs.proofs.job_run.run_job.Goals as goal

pub returns-in-Ok-clause-ran : goal.returns-in-Ok-clause-ran
returns-in-Ok-clause-ran g c =
    let job = c.args.job.now in
    let run = c.recover_telling in
    let read = c.in-Ok.ensures.read in
    let source = movement_of g.S.Source.given g.S.Source.failed c.args.source.now run.new.source in
    let sink = movement_of g.T.Sink.taken g.T.Sink.failed c.args.sink.now run.new.sink in
    let messages = movement_of g.E.Sink.taken g.E.Sink.failed c.args.messages.now c.say_end.new.messages in
    let ended = g.S.Source.has_ended run.new.source in
    let new : IsNew job c.new-recovery.result = record {
      recovered = λ begun. c.new-recovery.ensures.recovered (setting_of job begun) refl (search rules);
      awaits = λ none begun. c.new-recovery.ensures.awaits (setting_of job begun) refl (search rules) none;
    } in
    let grown = bit-and-lines job c.args.found c.say_bit.ensures.no_fewer_failures run.ensures.no_fewer_failures
    c.say_end.ensures.no_fewer_failures c.say_bit.ensures.text run.ensures.text in
    record {
      octets = read.octets;
      given = read.given;
      now = run.new.recovery;
      answer = Ok c.in-Ok.field-0;
      ran = subst (λ (u : Unit). AnswerRan job c.args.found u read.octets ended run.new.recovery source sink messages
          c.say_end.result (Ok c.in-Ok.field-0)) c.unit_of_job-unit.ensures.unit
          (done job c.args.found c.unit_of_job-unit.result read.octets ended g.T.Sink.taken c.new-recovery.result
          run.new.recovery c.args.sink.now run.new.sink c.unit_of_job-unit.ensures.bit new source messages _ _
          c.say_end.result c.in-Ok.field-0 read.ran c.in-Ok.ensures.to_the_end c.in-Ok.ensures.source_count
          c.in-Ok.ensures.sink_count
          (end-joined job c.args.found _ _ _ _ _ _ grown run.new.recovery c.say_end.result c.say_end.ensures.said));
    }

pub returns-in-Err-clause-ran : goal.returns-in-Err-clause-ran
returns-in-Err-clause-ran g c =
    let job = c.args.job.now in
    let run = c.recover_telling in
    let read = c.in-Err.ensures.read in
    let source = movement_of g.S.Source.given g.S.Source.failed c.args.source.now run.new.source in
    let sink = movement_of g.T.Sink.taken g.T.Sink.failed c.args.sink.now run.new.sink in
    let messages = movement_of g.E.Sink.taken g.E.Sink.failed c.args.messages.now c.say_refusal.new.messages in
    let ended = g.S.Source.has_ended run.new.source in
    let new : IsNew job c.new-recovery.result = record {
      recovered = λ begun. c.new-recovery.ensures.recovered (setting_of job begun) refl (search rules);
      awaits = λ none begun. c.new-recovery.ensures.awaits (setting_of job begun) refl (search rules) none;
    } in
    let grown = bit-and-lines job c.args.found c.say_bit.ensures.no_fewer_failures run.ensures.no_fewer_failures
    c.say_refusal.ensures.no_fewer_failures c.say_bit.ensures.text run.ensures.text in
    record {
      octets = read.octets;
      given = read.given;
      now = run.new.recovery;
      answer = Err c.in-Err.refusal;
      ran = subst (λ (u : Unit). AnswerRan job c.args.found u read.octets ended run.new.recovery source sink messages
          c.say_refusal.result (Err c.in-Err.refusal)) c.unit_of_job-unit.ensures.unit
          (refused job c.args.found c.unit_of_job-unit.result read.octets ended g.T.Sink.taken c.new-recovery.result
          run.new.recovery c.args.sink.now run.new.sink c.unit_of_job-unit.ensures.bit new source messages _ _
          c.say_refusal.result c.in-Err.refusal read.ran c.in-Err.ensures.one_failure c.say_refusal.ensures.status
          (grew-said job c.args.found _ _ _ _ _ _ grown (refusal_text c.in-Err.refusal) c.say_refusal.ensures.text));
    }
