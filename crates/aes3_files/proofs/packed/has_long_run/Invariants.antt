use Rattle.std.proofs.Common.{◌≡◌, ◌+◌, false}
use Rattle.aes3_files.specs.Packed.{has_long_run}
use Rattle.aes3_files.proofs.LongRuns.{low}
use Rattle.aes3_files.proofs.packed.has_long_run.Given as goal

abbrev pub invariant-loop-at : goal.invariant-loop-at
invariant-loop-at l = has_long_run (low (l.at + 3) l.bits) ≡ false
