use Rattle.std.proofs.Common.{[], ◌∷◌, arith}
use Rattle.aes3_level.specs.Words.{cells_in, low_cells}
use Rattle.aes3_level.proofs.CellsIn.{front-from}
use Rattle.aes3_input.proofs.Handing.{cells-ran-is}
use Rattle.aes3_input.proofs.taker.cells.Goals as goal

pub returns : goal.returns
returns g c =
    let w = c.args.word in
    record {
      ran = cells-ran-is (g.K.Taker.state c.args.taker.now) (g.K.Taker.state c.take_all.new.taker)
          (cells_in (w ∷ []) 0 c.args.len) (low_cells c.args.len w)
          (record {
            old = g.T.Sink.taken c.args.sink.now;
            new = g.T.Sink.taken c.take_all.new.sink;
            failed_old = g.T.Sink.failed c.args.sink.now;
            failed_new = g.T.Sink.failed c.take_all.new.sink;
          }) c.take_all.result
          (front-from (w ∷ []) 0 c.args.len (omega arith) c.requires.few) c.take_all.ensures.ran;
    }
