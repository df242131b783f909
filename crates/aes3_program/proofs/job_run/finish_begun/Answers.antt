use Rattle.std.proofs.Common.{Ok, arith, refl}
use Rattle.aes3_input.specs.Running.{ends_of, movement_of}
use Rattle.aes3_program.proofs.Flushes.{answered-passed, answered-quiet, passed-on, refused-flushed}
use Rattle.aes3_program.proofs.job_run.finish_begun.Goals as goal

pub returns-in-Ok : goal.returns-in-Ok
returns-in-Ok g c = record {
  ran = record {
    answer = Ok c.in-Ok.outcome;
    failed = g.T.Sink.failed c.run_job.new.sink;
    passed = g.T.Sink.passed c.run_job.new.sink;
    run = c.in-Ok.ensures;
    told = (c.tell_outcome.ensures.status, refl, c.tell_outcome.ensures.told);
  };
  passed_on = λ quiet. answered-passed c.args.job.now (ends_of g.S.Source c.args.source.now c.run_job.new.source
      g.T.Sink c.args.sink.now c.run_job.new.sink) c.in-Ok.outcome c.in-Ok.ensures;
  aside = c.tell_outcome.ensures.aside;
}

pub flush_after-requires : goal.flush_after-requires
flush_after-requires g c = record {
  room = λ n.
      let quiet = answered-quiet c.args.job.now (ends_of g.S.Source c.args.source.now c.run_job.new.source
      g.T.Sink c.args.sink.now c.run_job.new.sink) c.in-Err.ensures n in
      omega (arith, quiet, c.requires.sink_room);
}

pub returns-in-Err : goal.returns-in-Err
returns-in-Err g c = record {
  ran = refused-flushed (g.T.Sink.passed c.run_job.new.sink) c.in-Err.ensures c.flush_after.ensures.told c.refuse.ensures.aside.refusal;
  passed_on = passed-on c.args.job.now (g.S.Source.has_ended c.run_job.new.source)
      (movement_of g.S.Source.given g.S.Source.failed c.args.source.now c.run_job.new.source)
      (g.T.Sink.taken c.args.sink.now) (g.T.Sink.passed c.run_job.new.sink) c.in-Err.ensures c.flush_after.ensures.told
      c.flush_after.ensures.passed_on;
  aside = record { refused = _; aside = c.refuse.ensures.aside };
}
