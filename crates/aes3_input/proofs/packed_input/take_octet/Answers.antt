use Rattle.std.proofs.Common.{◌∙◌, arith, sym, refl}
use Rattle.aes3_cell.specs.Packed.{whole_cells}
use Rattle.aes3_input.proofs.PackedLemmas.{octets-seen, few-cells, octet-none, octet-whole, octet-front}
use Rattle.aes3_input.proofs.packed_input.take_octet.Goals as goal

pub feed_byte-requires : goal.feed_byte-requires
feed_byte-requires g c = let h = c.requires.following in let l = h.1 in let e = octets-seen h.2 in omega arith

pub take_octet_cells-requires-clause-following : goal.take_octet_cells-requires-clause-following
take_octet_cells-requires-clause-following g c =
    let h = c.requires.following in
    let l = h.1 in
    let n = few-cells h.0 in
    (whole_cells h.0, omega arith, h.2.taker)

pub overflow_add-input : goal.overflow_add-input
overflow_add-input g c =
    let h = c.requires.following in
    let l = h.1 in
    let e = h.2.count in
    let n = few-cells h.0 in
    omega arith

pub returns-in-None : goal.returns-in-None
returns-in-None g c = (
  octet-none (g.K.Taker.state c.args.taker.now).writes (g.K.Taker.state c.args.taker.now).follows
      c.args.input.now.packed c.feed_byte.new.self c.args.input.now.cells c.args.octet
      (g.T.Sink.taken c.args.sink.now) (sym c.in-None.is ∙ c.feed_byte.ensures.answer) c.feed_byte.ensures.next,
  refl,
)

pub returns-in-Ok : goal.returns-in-Ok
returns-in-Ok g c =
    let r = c.in-Ok.ensures in (
      octet-whole (g.K.Taker.state c.args.taker.now).writes (g.K.Taker.state c.take_octet_cells.new.taker).writes
          (g.K.Taker.state c.args.taker.now).follows (g.K.Taker.state c.take_octet_cells.new.taker).follows
          c.args.input.now.packed c.feed_byte.new.self c.args.input.now.cells c.args.octet c.in-Some.whole
          (g.T.Sink.taken c.args.sink.now) (g.T.Sink.taken c.take_octet_cells.new.sink)
          (sym c.in-Some.is ∙ c.feed_byte.ensures.answer) c.feed_byte.ensures.next r.0 r.1 r.2,
      r.3,
    )

pub returns-in-Err : goal.returns-in-Err
returns-in-Err g c =
    let r = c.in-Err.ensures in (
      r.0,
      octet-front (g.K.Taker.state c.args.taker.now).writes (g.K.Taker.state c.args.taker.now).follows
          c.args.input.now.packed c.args.input.now.cells c.args.octet c.in-Some.whole
          (g.T.Sink.taken c.args.sink.now) (g.T.Sink.taken c.take_octet_cells.new.sink)
          (sym c.in-Some.is ∙ c.feed_byte.ensures.answer) r.1,
    )
