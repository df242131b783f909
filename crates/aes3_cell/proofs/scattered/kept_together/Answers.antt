use Rattle.std.proofs.Common.{sym, ap, ◌∙◌, rules}
use Rattle.aes3_cell.specs.Scattered.{kept_cells}
use Rattle.aes3_cell.proofs.SecondCells.{from-second}
use Rattle.aes3_cell.proofs.scattered.kept_together.Goals as goal

pub returns-then-kept-eq-FROM_SECOND : goal.returns-then-kept-eq-FROM_SECOND
returns-then-kept-eq-FROM_SECOND c =
    c.every_second-then-kept-eq-FROM_SECOND.ensures ∙ search (rules, from-second c.args.levels)
    ∙ ap (λ k. kept_cells 64 k c.args.levels) (sym c.if-kept-eq-FROM_SECOND.true)
