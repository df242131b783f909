use Rattle.std.proofs.Common.{◌*◌, length, ap, ◌∙◌, arith}
use Rattle.std.specs.List.{flat_map}
use Rattle.std.proofs.lemmas.List.{take_all}
use Rattle.aes3_level.specs.Words.{cells_in, word_cells}
use Rattle.aes3_level.proofs.CellsIn.{cells-of-words}
use Rattle.aes3_input.specs.Running.{movement_of}
use Rattle.aes3_input.proofs.Handing.{cells-ran-is}
use Rattle.aes3_input.proofs.taker.whole_words.Goals as goal

pub returns : goal.returns
returns g c =
    let ws = c.args.words.now in
    let n = length ws in
    record {
      ran = cells-ran-is (g.K.Taker.state c.args.taker.now) (g.K.Taker.state c.take_all.new.taker)
          (cells_in ws 0 (64 * n)) (flat_map word_cells ws)
          (movement_of g.T.Sink.taken g.T.Sink.failed c.args.sink.now c.take_all.new.sink) c.take_all.result
          (cells-of-words ws n (omega arith) ∙ ap (flat_map word_cells) (take_all n ws (omega arith))) c.take_all.ensures.ran;
    }
