use Rattle.std.proofs.Common.{sym, ◌∙◌}
use Rattle.aes3_level.specs.Words.{low_cells}
use Rattle.aes3_level.proofs.WordCells.{length-low_cells}
use Rattle.aes3_spoil.proofs.Taking.{clear-cells, clear-stands, took}
use Rattle.aes3_spoil.proofs.spoiling.Spoiler.take_clear.Goals as goal

pub returns : goal.returns
returns g c =
    let s = c.args.self.now in
    let n = c.args.len in
    let l = length-low_cells n c.args.word in
    took g.T.Sink.taken g.T.Sink.failed c.args.sink.now c.put.new.sink s c.put.new.self _ _ _ (low_cells n c.args.word)
    (low_cells n c.front_of.result) c.put.result c.put.ensures.form
    (λ d h. clear-cells s n c.args.word d c.requires.clear l h ∙ sym c.front_of.ensures.cells)
    (λ d h. rw (c.from.ensures, c.from-2.ensures) (clear-stands s n d (low_cells n c.args.word) c.requires.clear l h))
    c.put.ensures.wrote c.put.ensures.held
