use Rattle.std.proofs.Common.{[], take}
use Rattle.aes3_cell.specs.TextReading.{TextRead}
use Rattle.aes3_cell.proofs.cell_text.skip_separators.Given as goal

abbrev pub invariant-loop-i : goal.invariant-loop-i
invariant-loop-i l = TextRead l.fn.text l.text (take l.i l.piece) []
