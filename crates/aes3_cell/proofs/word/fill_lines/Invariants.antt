use Rattle.std.proofs.Common.{◌*◌}
use Rattle.aes3_cell.specs.Written.{FirstLines}
use Rattle.aes3_cell.proofs.word.fill_lines.Given as goal

abbrev pub invariant-loop-i : goal.invariant-loop-i
invariant-loop-i l = record { lines : FirstLines (4 * l.i) l.words l.text }
