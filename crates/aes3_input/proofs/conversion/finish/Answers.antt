use Rattle.aes3_input.proofs.Flushing.{end-passed, end-stuck}
use Rattle.aes3_input.proofs.conversion.finish.Goals as goal

pub returns-in-Ok-clause-ran : goal.returns-in-Ok-clause-ran
returns-in-Ok-clause-ran g c =
    end-passed (g.I.Input.state c.args.input.now c.args.taker.now)
    (g.I.Input.state c.finish.new.self c.finish.new.taker)
    (g.T.Sink.taken c.args.sink.now) (g.T.Sink.taken c.finish.new.sink) (g.T.Sink.taken c.flush.new.self)
    (g.T.Sink.failed c.args.sink.now) (g.T.Sink.failed c.finish.new.sink) (g.T.Sink.failed c.flush.new.self)
    c.flush.ensures.bytes c.in-Ok.ensures.no_failure c.in_ok-finish.ensures

pub returns-in-Err-clause-ran : goal.returns-in-Err-clause-ran
returns-in-Err-clause-ran g c =
    end-stuck (g.I.Input.state c.args.input.now c.args.taker.now)
    (g.I.Input.state c.finish.new.self c.finish.new.taker)
    (g.T.Sink.taken c.args.sink.now) (g.T.Sink.taken c.finish.new.sink) (g.T.Sink.taken c.flush.new.self)
    (g.T.Sink.failed c.args.sink.now) (g.T.Sink.failed c.finish.new.sink) (g.T.Sink.failed c.flush.new.self)
    c.flush.ensures.bytes c.in-Err.ensures.err c.in_ok-finish.ensures
