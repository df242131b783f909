use Rattle.std.proofs.Common.{◌-◌, length, take, drop, append-nil, refl}
use Rattle.std.proofs.lemmas.List.{take_rest}
use Rattle.aes3_level.specs.Words.{word_cells}
use Rattle.aes3_cell.proofs.TextReads.{read-is, read-front, read-word}
use Rattle.aes3_cell.proofs.cell_text.feed_line.Goals as goal

pub returns-in-Some-clause-read : goal.returns-in-Some-clause-read
returns-in-Some-clause-read c =
    let xs = c.args.piece.now in
    let w = c.in-Some.word in
    read-is refl (append-nil (word_cells w))
    (read-front xs (take (length xs - 64) (drop 64 xs)) 64 c.skip_separators-separators.result (take_rest xs 64)
    (read-word c.args.text.now c.feed_front.new.text (take 64 xs) w c.in-Some.ensures.cells c.in-Some.ensures.seen)
    c.skip_separators-separators.ensures.read)
