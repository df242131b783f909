use Rattle.std.proofs.Common.{sym, ◌∙◌}
use Rattle.aes3_cell.proofs.ScatteredText.{lawful, scattered-cells, all-tell}
use Rattle.aes3_cell.proofs.scattered.cells_among.Goals as goal

pub returns-then-cells-separators-clause-cells : goal.returns-then-cells-separators-clause-cells
returns-then-cells-separators-clause-cells c =
    scattered-cells c.args.bytes.now c.equal_to-high.result c.equal_to.result c.separators_of-separators.result
    c.told-bytes c.equal_to-high.ensures c.equal_to.ensures c.separators_of-separators.ensures
    c.if-cells-separators.true
    ∙ sym c.kept_together.ensures

pub returns-then-cells-separators-clause-lawful : goal.returns-then-cells-separators-clause-lawful
returns-then-cells-separators-clause-lawful c =
    lawful c.args.bytes.now c.equal_to-high.result c.equal_to.result c.separators_of-separators.result c.told-bytes
    c.equal_to-high.ensures c.equal_to.ensures c.separators_of-separators.ensures c.if-cells-separators.true

pub returns-else-cells-separators-clause-owed : goal.returns-else-cells-separators-clause-owed
returns-else-cells-separators-clause-owed c = λ t.
    c.if-cells-separators.false
    (all-tell c.args.bytes.now c.equal_to-high.result c.equal_to.result c.separators_of-separators.result c.told-bytes
    c.equal_to-high.ensures c.equal_to.ensures c.separators_of-separators.ensures c.equal_to-high.type_inv
    c.equal_to.type_inv c.separators_of-separators.type_inv t)
