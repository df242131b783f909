use Rattle.std.proofs.Common.{[], ◌∷◌, ◌++◌, ◌∙◌, sym, ap, rules}
use Rattle.aes3_level.specs.Words.{low_cells}
use Rattle.aes3_level.proofs.WordCells.{low_cells-low, low_cells-high, with_bit-lt}
use Rattle.aes3_cell.proofs.word.with_cell.Goals as goal

pub returns-in-Low-clause-cells : goal.returns-in-Low-clause-cells
returns-in-Low-clause-cells c =
    low_cells-low c.args.len c.args.word c.requires.bound
    ∙ ap (λ l. low_cells c.args.len c.args.word ++ l ∷ []) (sym c.in-Low.is)

pub returns-in-High-clause-cells : goal.returns-in-High-clause-cells
returns-in-High-clause-cells c =
    search (rules, low_cells-high c.args.len c.args.word c.requires.few)
    ∙ ap (λ l. low_cells c.args.len c.args.word ++ l ∷ []) (sym c.in-High.is)

pub returns-in-High-clause-bound : goal.returns-in-High-clause-bound
returns-in-High-clause-bound c = with_bit-lt c.args.len c.args.word c.requires.few c.requires.bound
