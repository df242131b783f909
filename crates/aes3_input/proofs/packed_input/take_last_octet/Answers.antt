use Rattle.std.proofs.Common.{◌+◌, ◌^◌, ◌≤◌, ◌++◌, length, length-append, arith}
use Rattle.std.proofs.lemmas.Result.{err_from_is_err_and}
use Rattle.aes3_cell.proofs.Growing.{front-more}
use Rattle.aes3_input.specs.Forms.{octet_front}
use Rattle.aes3_input.proofs.PackedLemmas.{length-front, ended}
use Rattle.aes3_input.proofs.packed_input.take_last_octet.Goals as goal

pub finish-requires-clause-following : goal.finish-requires-clause-following
finish-requires-clause-following g c =
    let q = c.requires.following in
    let l : length q.0 + 8 ≤ 2 ^ 43 = q.1 in
    let d = octet_front c.args.used c.args.octet in
    let n = length-append q.0 d in
    let k = length-front c.args.used c.args.octet c.requires.few in
    let u = c.requires.few in
    (q.0 ++ d, omega arith, c.in_ok-take_octet_cells.ensures.1 q.0 q.2)

pub returns : goal.returns
returns g c =
    ended (g.K.Taker.state c.args.taker.now) (g.K.Taker.state c.take_octet_cells.new.taker) (g.K.Taker.state c.finish.new.self)
    (octet_front c.args.used c.args.octet) (g.T.Sink.taken c.args.sink.now) (g.T.Sink.taken c.take_octet_cells.new.sink)
    (g.T.Sink.taken c.finish.new.sink)
    (g.T.Sink.failed c.args.sink.now) (g.T.Sink.failed c.take_octet_cells.new.sink) (g.T.Sink.failed c.finish.new.sink)
    c.finish.result
    c.in_ok-take_octet_cells.ensures c.finish.ensures.done c.finish.ensures.grew c.finish.ensures.no_failure
    c.finish.ensures.one_failure c.finish.ensures.err_grew

pub returns-in_err-take_octet_cells : goal.returns-in_err-take_octet_cells
returns-in_err-take_octet_cells g c =
    let r = c.in_err-take_octet_cells.ensures in
    let error = err_from_is_err_and c.from_residual.result c.from_residual.ensures.1 in
    rw error.1 (r.0, λ b h. front-more (r.1 b h) _)
