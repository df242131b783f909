use Rattle.std.proofs.Common.{◌≡◌, ◌+◌, ◌-◌, take, arith, sym, ap, ◌∙◌}
use Rattle.aes3_level.specs.Words.{low_cells}
use Rattle.aes3_level.proofs.WordCells.{take-low_cells}
use Rattle.aes3_input.specs.Forms.{octet_front}
use Rattle.aes3_input.proofs.Handing.{cells-ran-is}
use Rattle.aes3_input.proofs.packed_input.take_octet_cells.Goals as goal

pub returns : goal.returns
unfolding octet_front
returns g c =
    let w = c.word_of_octet.result in
    let n = c.args.used in
    let e : n + (8 - n) ≡ 8 = (let h = c.requires.few in omega arith) in
    cells-ran-is (g.K.Taker.state c.args.taker.now) (g.K.Taker.state c.cells.new.taker)
    (low_cells c.from.result w) (octet_front n c.args.octet)
    (record {
      old = g.T.Sink.taken c.args.sink.now;
      new = g.T.Sink.taken c.cells.new.sink;
      failed_old = g.T.Sink.failed c.args.sink.now;
      failed_new = g.T.Sink.failed c.cells.new.sink;
    }) c.cells.result
    (ap (λ k. low_cells k w) c.from.ensures ∙ sym (take-low_cells n (8 - n) w) ∙ ap (λ k. take n (low_cells k w)) e
    ∙ ap (take n) c.word_of_octet.ensures) c.cells.ensures.ran
