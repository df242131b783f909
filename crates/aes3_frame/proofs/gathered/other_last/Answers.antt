use Rattle.std.proofs.Common.{◌∙◌, sym, arith}
use Rattle.aes3_level.specs.Words.{word_cells, word_len}
use Rattle.aes3_frame.proofs.ReadCells.{last-of}
use Rattle.aes3_frame.proofs.gathered.other_last.Goals as goal

pub returns-in-Low : goal.returns-in-Low
unfolding word_cells word_len
returns-in-Low c = λ h. last-of c.args.cells 0 (omega (arith, h)) ∙ sym c.in-Low.is

pub returns-in-High : goal.returns-in-High
unfolding word_cells word_len
returns-in-High c = λ h. let f = c.ranges.cells.fits in last-of c.args.cells 1 (omega (arith, h, f)) ∙ sym c.in-High.is
