use Rattle.std.proofs.Common.{ap, arith, length}
use Rattle.std.specs.List.{flat_map}
use Rattle.std.proofs.lemmas.Slice.{between_to_end}
use Rattle.aes3_level.specs.Words.{word_cells}
use Rattle.aes3_cell.specs.Written.{bytes_of}
use Rattle.aes3_cell.proofs.ManyWords.{bytes-split}
use Rattle.aes3_cell.proofs.Writing.{wrote-is, wrote-behind}
use Rattle.aes3_cell.proofs.word.put_words.Goals as goal

pub returns : goal.returns
returns g c =
    let words = c.args.words.now in
    let n = c.in_ok-written.written in
    let rest = ap (λ w. bytes_of c.args.form (flat_map word_cells w))
    (between_to_end words n (length words) (omega arith)) in
    wrote-is (bytes-split c.args.form words n c.in_ok-written.ensures.within)
    (wrote-behind c.put_each.result c.in_ok-written.ensures.no_failure c.in_ok-written.ensures.cells
    (wrote-is rest c.put_each.ensures))
