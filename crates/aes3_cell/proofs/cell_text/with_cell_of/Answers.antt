use Rattle.std.proofs.Common.{arith}
use Rattle.aes3_cell.proofs.CellBytes.{cells-added}
use Rattle.aes3_cell.proofs.cell_text.with_cell_of.Goals as goal

pub invariant_of-result : goal.invariant_of-result
invariant_of-result c =
    let a = cells-added c.args.cells.len c.args.cells.word c.requires.few c.args.cells.bound c.args.byte c.from.result
    c.from-2.result c.requires.good c.from.ensures c.from-2.ensures in
    record { few = (let o = a.2 in omega arith); bound = a.1 }

pub returns : goal.returns
returns c =
    (cells-added c.args.cells.len c.args.cells.word c.requires.few c.args.cells.bound c.args.byte c.from.result
    c.from-2.result c.requires.good c.from.ensures c.from-2.ensures).0
