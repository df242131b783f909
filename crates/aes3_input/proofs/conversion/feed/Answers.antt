use Rattle.aes3_input.proofs.Flushing.{piece-passed, piece-stuck}
use Rattle.aes3_input.proofs.conversion.feed.Goals as goal

pub returns-in-Ok-clause-ran : goal.returns-in-Ok-clause-ran
returns-in-Ok-clause-ran g c =
    piece-passed (g.I.Input.state c.args.input.now c.args.taker.now)
    (g.I.Input.state c.feed_fronts.new.input c.feed_fronts.new.taker) c.args.piece.now
    (g.T.Sink.taken c.args.sink.now) (g.T.Sink.taken c.feed_fronts.new.sink) (g.T.Sink.taken c.flush.new.self)
    (g.T.Sink.failed c.args.sink.now) (g.T.Sink.failed c.feed_fronts.new.sink) (g.T.Sink.failed c.flush.new.self)
    c.flush.ensures.bytes c.in-Ok.ensures.no_failure c.in_ok-feed_fronts.ensures

pub returns-in-Err-clause-ran : goal.returns-in-Err-clause-ran
returns-in-Err-clause-ran g c =
    piece-stuck (g.I.Input.state c.args.input.now c.args.taker.now)
    (g.I.Input.state c.feed_fronts.new.input c.feed_fronts.new.taker) c.args.piece.now
    (g.T.Sink.taken c.args.sink.now) (g.T.Sink.taken c.feed_fronts.new.sink) (g.T.Sink.taken c.flush.new.self)
    (g.T.Sink.failed c.args.sink.now) (g.T.Sink.failed c.feed_fronts.new.sink) (g.T.Sink.failed c.flush.new.self)
    c.flush.ensures.bytes c.in-Err.ensures.err c.in_ok-feed_fronts.ensures
