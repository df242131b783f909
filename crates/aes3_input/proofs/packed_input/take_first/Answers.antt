use Rattle.std.proofs.Common.{◌∷◌, [], drop, get_or, arith, sym, refl}
use Rattle.std.proofs.lemmas.Result.{err_from_is_err_and}
use Rattle.std.proofs.Math.Seq.{drop-cons}
use Rattle.aes3_input.specs.Forms.{packed_state}
use Rattle.aes3_input.proofs.Feeding.{fed-none, ran-join}
use Rattle.aes3_input.proofs.packed_input.take_first.Goals as goal

pub returns-in_err-take_octet : goal.returns-in_err-take_octet
returns-in_err-take_octet g c =
    let xs = c.args.piece.now in
    let k = c.requires.some in
    let start = packed_state c.args.input.now.packed c.args.input.now.cells (g.K.Taker.state c.args.taker.now) in
    let new = c.take_octet.new in
    let error = err_from_is_err_and c.from_residual.result c.from_residual.ensures.1 in
    rw (error.1, error.2) (ran-join start start
    (packed_state new.input.packed new.input.cells (g.K.Taker.state new.taker))
    (g.T.Sink.taken c.take_octet.new.sink) (g.T.Sink.failed c.take_octet.new.sink)
    (get_or xs 0 0 ∷ []) (drop 1 xs) xs _
    (fed-none start.reads start.follows (g.T.Sink.taken c.args.sink.now))
    refl (sym (drop-cons xs 0 0 (omega arith))) c.in_err-take_octet.ensures)
