use Rattle.std.proofs.Common.{◌-◌, ◌*◌, ◌/◌, ◌^◌}
use Rattle.aes3_cell.specs.Scattered.{Holds, kept_cells}
use Rattle.aes3_cell.proofs.scattered.together.Given as goal

abbrev pub invariant-loop-i : goal.invariant-loop-i
invariant-loop-i l = Holds (kept_cells (8 * l.i) (l.kept / 2 ^ (64 - 8 * l.i)) (l.levels / 2 ^ (64 - 8 * l.i))) l.word
