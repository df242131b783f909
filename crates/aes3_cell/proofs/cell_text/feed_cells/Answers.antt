use Rattle.std.proofs.Common.{◌-◌, length, take, drop, append-nil, refl}
use Rattle.std.proofs.lemmas.List.{take_rest}
use Rattle.aes3_level.specs.Words.{low_cells}
use Rattle.aes3_cell.proofs.TextReads.{read-is, read-front}
use Rattle.aes3_cell.proofs.cell_text.feed_cells.Goals as goal

pub returns-clause-read : goal.returns-clause-read
returns-clause-read c =
    let xs = c.args.piece.now in
    let at = c.in_ok-taken.taken in
    read-is refl (append-nil (low_cells c.in_ok-taken.cells.len c.in_ok-taken.cells.word))
    (read-front xs (take (length xs - at) (drop at xs)) at c.skip_separators-separators.result (take_rest xs at)
    c.in_ok-taken.ensures.read c.skip_separators-separators.ensures.read)
