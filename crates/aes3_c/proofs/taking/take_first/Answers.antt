use Rattle.std.proofs.Common.{drop, arith}
use Rattle.std.specs.List.{flat_map}
use Rattle.std.proofs.lemmas.List.{length-drop}
use Rattle.aes3_level.specs.Words.{word_cells}
use Rattle.aes3_level.proofs.CellsIn.{length-words}
use Rattle.aes3_c.proofs.TakenFronts.{front-taken}
use Rattle.aes3_c.proofs.taking.take_first.Goals as goal

pub returns : goal.returns
returns c =
    let ws = c.args.words.now in
    let t = c.take-ending.ensures in
    let l = length-words ws in
    let d = length-drop c.args.first (flat_map word_cells ws) in
    let w = c.requires.within in
    let s = t.took.seen in
    front-taken (drop c.args.first (flat_map word_cells ws)) _ c.args.len _ t.took c.of_words-cells.ensures
    (omega (arith, l, d, w)) t.all t.some (omega (arith, s))
