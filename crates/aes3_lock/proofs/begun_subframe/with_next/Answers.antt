use Rattle.std.proofs.Common.{[], ◌∷◌, ◌++◌, ◌∙◌, sym, ap}
use Rattle.aes3_level.specs.Words.{low_cells}
use Rattle.aes3_level.proofs.WordCells.{low_cells-low, low_cells-high, with_bit-lt}
use Rattle.aes3_lock.proofs.begun_subframe.with_next.Goals as goal

pub returns-in-Low-clause-cells : goal.returns-in-Low-clause-cells
returns-in-Low-clause-cells c =
    λ h. low_cells-low c.args.len c.args.cells h
    ∙ ap (λ l. low_cells c.args.len c.args.cells ++ l ∷ []) (sym c.in-Low.is)

pub returns-in-High-clause-cells : goal.returns-in-High-clause-cells
returns-in-High-clause-cells c = λ h.
    low_cells-high c.args.len c.args.cells c.requires
    ∙ ap (λ l. low_cells c.args.len c.args.cells ++ l ∷ []) (sym c.in-High.is)

pub returns-in-High-clause-few : goal.returns-in-High-clause-few
returns-in-High-clause-few c = λ h. with_bit-lt c.args.len c.args.cells c.requires h
