use Rattle.aes3_capture_recovery.proofs.Taking.{took-end}
use Rattle.aes3_capture_recovery.proofs.recovery_run.end.Goals as goal

pub returns-in-Ok-clause-took : goal.returns-in-Ok-clause-took
returns-in-Ok-clause-took g c =
    took-end g.T.Sink.taken c.args.recovery.now c.finish.new.self c.args.sink.now c.finish.new.sink c.finish.ensures.samples
    c.in-Ok.ensures.recovered c.in-Ok.ensures.up c.in-Ok.ensures.begun c.in-Ok.ensures.writes
    c.finish.ensures.kept
