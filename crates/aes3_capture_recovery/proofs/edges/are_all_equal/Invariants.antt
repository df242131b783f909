use Rattle.std.proofs.Common.{◌≡◌, ◌*◌, replicate, take}
use Rattle.std.specs.List.{flat_map}
use Rattle.aes3_level.specs.Words.{word_cells}
use Rattle.aes3_capture_recovery.specs.Endings.{level_if}
use Rattle.aes3_capture_recovery.proofs.edges.are_all_equal.Given as goal

abbrev pub invariant-loop-i : goal.invariant-loop-i
invariant-loop-i l = flat_map word_cells (take l.i l.words) ≡ replicate (64 * l.i) (level_if l.high)
