use Rattle.std.proofs.Common.{◌∙◌, ◌*◌, ap, arith, length, length-append, take}
use Rattle.std.specs.List.{flat_map}
use Rattle.std.proofs.lemmas.List.{length-take-le}
use Rattle.aes3_level.specs.Words.{low_cells, word_cells}
use Rattle.aes3_level.proofs.WordCells.{length-low_cells, word_len_64}
use Rattle.aes3_cell.proofs.ManyWords.{length-words}
use Rattle.aes3_capture_recovery.proofs.queue.CellQueue.cells_waiting.Goals as goal

pub returns : goal.returns
returns c =
    let q = c.args.self.now in
    let whole = take q.count q.words in
    let sum = length-append (flat_map word_cells whole) (low_cells q.len q.word) in
    let words = length-words whole ∙ ap (λ n. length whole * n) word_len_64 in
    let few = q.words_left in
    let count = length-take-le q.count q.words (omega (arith, few)) in
    let rest = length-low_cells q.len q.word in
    omega (arith, sum, words, count, rest)
