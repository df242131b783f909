use Rattle.std.proofs.Common.{◌≡◌, ◌+◌, ◌/◌, arith, sym, ap, ◌∙◌}
use Rattle.aes3_level.specs.declared.level.Level.TheVariants.{Low, High}
use Rattle.aes3_lock.specs.Steps.{eight_with}
use Rattle.aes3_level.specs.Words.{low_cells}
use Rattle.aes3_lock.proofs.LastEight.{byte-with}
use Rattle.aes3_lock.proofs.begun_subframe.with_cell.Goals as goal

pub returns-in-Low : goal.returns-in-Low
returns-in-Low c = ap (low_cells 8) (let e : c.args.recent / 2 ≡ c.args.recent / 2 + 0 = omega arith in e)
    ∙ byte-with c.args.recent Low (omega arith) ∙ ap (eight_with (low_cells 8 c.args.recent)) (sym c.in-Low.is)

pub returns-in-High : goal.returns-in-High
returns-in-High c = byte-with c.args.recent High (omega arith)
    ∙ ap (eight_with (low_cells 8 c.args.recent)) (sym c.in-High.is)
