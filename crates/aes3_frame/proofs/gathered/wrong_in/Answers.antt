use Rattle.std.proofs.Common.{arith}
use Rattle.std.proofs.lemmas.Nat.{le_or_l, le_or_r}
use Rattle.aes3_frame.proofs.ReadCells.{right-subframe, none-wrong, even-by-last}
use Rattle.aes3_frame.proofs.gathered.wrong_in.Goals as goal

pub returns : goal.returns
returns c = λ z.
    let p = le_or_l c.wrong_cells.result c.other_last.result in
    let q = le_or_r c.wrong_cells.result c.other_last.result in
    let n = none-wrong c.args.before c.args.mark c.args.cells c.wrong_cells.result
    (omega (arith, z, p)) c.wrong_cells.ensures in
    right-subframe c.args.before c.args.mark c.args.cells n
    (even-by-last c.args.before c.args.mark c.args.cells n (c.other_last.ensures (omega (arith, z, q))))
