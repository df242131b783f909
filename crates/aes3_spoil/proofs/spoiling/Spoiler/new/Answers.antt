use Rattle.std.proofs.Common.{refl, sym, ap, ◌∙◌, arith, []}
use Rattle.aes3_cell.specs.Pending.{begun_cells}
use Rattle.aes3_spoil.proofs.SpoiledCells.{spoiled-none}
use Rattle.aes3_spoil.proofs.WholeWords.{begun-few}
use Rattle.aes3_spoil.proofs.spoiling.Spoiler.new.Goals as goal

pub returns-clause-spoils : goal.returns-clause-spoils
returns-clause-spoils c = record {
  place = refl;
  inverted = refl;
  held = c.new.ensures.none ∙ sym (ap begun_cells (spoiled-none c.args.errors.now) ∙ begun-few [] (omega arith));
  clear = c.clear_from.ensures;
}
