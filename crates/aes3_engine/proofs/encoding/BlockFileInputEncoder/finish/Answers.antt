use Rattle.std.proofs.Common.{sym, ◌∙◌}
use Rattle.aes3_engine.proofs.EncodingLemmas.{end-clean, end-front, end-refused}
use Rattle.aes3_engine.proofs.encoding.BlockFileInputEncoder.finish.Goals as goal

pub returns-in-Ok-put_ending : goal.returns-in-Ok-put_ending
returns-in-Ok-put_ending g c = (
  end-clean c.args.encoder.now.output (g.T.Sink.taken c.args.sink.now) (g.T.Sink.taken c.put_ending.new.sink)
      (sym c.in-Ok.is ∙ c.end.ensures) c.in-Ok-put_ending.ensures.grew,
  c.in-Ok-put_ending.ensures.no_failure,
)

pub returns-in-Err : goal.returns-in-Err
returns-in-Err g c =
    end-refused c.args.encoder.now.output c.args.self.now c.args.self.now c.args.encoder.now.blocks
    c.in-Err.fault c.from.result (g.T.Sink.taken c.args.sink.now) (g.T.Sink.failed c.args.sink.now)
    c.from.ensures (sym c.in-Err.is ∙ c.end.ensures)

pub returns-in-Err-put_ending : goal.returns-in-Err-put_ending
returns-in-Err-put_ending g c = (
  end-front c.args.encoder.now.output (g.T.Sink.taken c.args.sink.now) (g.T.Sink.taken c.put_ending.new.sink)
      (sym c.in-Ok.is ∙ c.end.ensures) c.in-Err-put_ending.ensures.err.1,
  c.in-Err-put_ending.ensures.err.0,
)
