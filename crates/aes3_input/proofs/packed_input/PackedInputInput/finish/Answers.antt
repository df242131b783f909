use Rattle.std.proofs.Common.{◌∙◌, arith, sym, refl}
use Rattle.aes3_cell.specs.Packed.{whole_cells}
use Rattle.aes3_input.proofs.PackedLemmas.{few-cells, last-used, last-ok, last-front, last-bad}
use Rattle.aes3_input.proofs.packed_input.PackedInputInput.finish.Goals as goal

pub take_last_octet-requires-clause-following : goal.take_last_octet-requires-clause-following
take_last_octet-requires-clause-following g c =
    let h = c.requires.following in
    let l = h.1 in
    let n = few-cells h.0 in
    (whole_cells h.0, omega arith, h.2.taker)

pub overflow_add-self : goal.overflow_add-self
overflow_add-self g c =
    let h = c.requires.following in
    let l = h.1 in
    let e = h.2.count in
    let n = few-cells h.0 in
    let u = last-used c.args.self.now.packed c.in-Ok.last c.unwrap_or-octet.result
    (sym c.in-Ok.is ∙ c.end.ensures.answer) c.unwrap_or-octet.ensures in
    let k = c.from.ensures in
    omega arith

pub returns-in-Ok-take_last_octet : goal.returns-in-Ok-take_last_octet
returns-in-Ok-take_last_octet g c =
    let r = c.in-Ok-take_last_octet.ensures in (
      last-ok (g.K.Taker.state c.args.taker.now).writes (g.K.Taker.state c.args.taker.now).follows
          (g.K.Taker.state c.take_last_octet.new.taker).finished
          c.args.self.now.packed c.args.self.now.cells c.in-Ok.last c.unwrap_or-octet.result c.from.result
          (g.T.Sink.taken c.args.sink.now) (g.T.Sink.taken c.take_last_octet.new.sink)
          (sym c.in-Ok.is ∙ c.end.ensures.answer) c.unwrap_or-octet.ensures c.from.ensures r.0,
      r.1,
    )

pub returns-in-Err-take_last_octet : goal.returns-in-Err-take_last_octet
returns-in-Err-take_last_octet g c =
    let r = c.in-Err-take_last_octet.ensures in (
      last-front (g.K.Taker.state c.args.taker.now).writes (g.K.Taker.state c.args.taker.now).follows
          c.args.self.now.packed c.args.self.now.cells c.in-Ok.last c.unwrap_or-octet.result
          (g.T.Sink.taken c.args.sink.now) (g.T.Sink.taken c.take_last_octet.new.sink)
          (sym c.in-Ok.is ∙ c.end.ensures.answer) c.unwrap_or-octet.ensures r.1,
      r.0,
    )

pub returns-in-Err : goal.returns-in-Err
returns-in-Err g c = (
  last-bad (g.K.Taker.state c.args.taker.now).writes (g.K.Taker.state c.args.taker.now).follows
      c.args.self.now.packed c.args.self.now.cells c.in-Err.fault (g.T.Sink.taken c.args.sink.now)
      (sym c.in-Err.is ∙ c.end.ensures.answer),
  refl,
)
