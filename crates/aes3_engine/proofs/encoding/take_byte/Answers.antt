use Rattle.std.proofs.Common.{arith, ap, sym, ◌∙◌, refl, Ok}
use Rattle.aes3_engine.proofs.EncodingLemmas.{byte-none, byte-block, byte-front, byte-refused, encodes-seen, few-blocks}
use Rattle.aes3_engine.proofs.encoding.take_byte.Goals as goal

pub feed_byte-requires : goal.feed_byte-requires
feed_byte-requires g c = let h = c.requires.following in let l = h.1 in let e = encodes-seen h.2 in omega arith

pub overflow_add-encoder : goal.overflow_add-encoder
overflow_add-encoder g c =
    let h = c.requires.following in
    let l = h.1 in
    let e = h.2.count in
    let f = few-blocks h.0 h.2.lawful in
    omega arith

pub returns-in-Ok-None : goal.returns-in-Ok-None
returns-in-Ok-None g c = (
  byte-none c.args.encoder.now.output c.feed_byte.new.self c.args.byte (g.T.Sink.taken c.args.sink.now)
      (sym (c.in-Ok-None.is ∙ ap (λ o. Ok o) c.in-Ok-None.field-0-is)
      ∙ c.feed_byte.ensures.answer) c.feed_byte.ensures.next,
  refl,
)

pub returns-in-Ok : goal.returns-in-Ok
returns-in-Ok g c = (
  byte-block c.args.encoder.now.output c.feed_byte.new.self c.args.byte c.in-Ok-Some.block
      (g.T.Sink.taken c.args.sink.now) (g.T.Sink.taken c.put_cells.new.sink)
      (sym (c.in-Ok-Some.is ∙ ap (λ o. Ok o) c.in-Ok-Some.field-0-is)
      ∙ c.feed_byte.ensures.answer) c.feed_byte.ensures.next
      (rw (← c.in-Ok-Some.block-is) c.in-Ok.ensures.grew),
  c.in-Ok.ensures.no_failure,
)

pub returns-in-Err-put_cells : goal.returns-in-Err-put_cells
returns-in-Err-put_cells g c = (
  c.in-Err-put_cells.ensures.err.0,
  byte-front c.args.encoder.now.output c.args.byte c.in-Ok-Some.block (g.T.Sink.taken c.args.sink.now)
      (g.T.Sink.taken c.put_cells.new.sink)
      (sym (c.in-Ok-Some.is ∙ ap (λ o. Ok o) c.in-Ok-Some.field-0-is)
      ∙ c.feed_byte.ensures.answer) c.in-Err-put_cells.ensures.err.1,
)

pub returns-in-Err : goal.returns-in-Err
returns-in-Err g c =
    byte-refused c.args.encoder.now.output c.args.file.now c.feed_byte.new.self c.args.encoder.now.blocks
    c.args.byte c.in-Err.fault c.from.result
    (g.T.Sink.taken c.args.sink.now) (g.T.Sink.failed c.args.sink.now)
    c.from.ensures (sym c.in-Err.is ∙ c.feed_byte.ensures.answer)
