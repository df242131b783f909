use Rattle.std.proofs.Common.{◌≡◌, take}
use Rattle.aes3_level.specs.Words.{low_cells}
use Rattle.aes3_lock.specs.Steps.{last_eight}
use Rattle.aes3_lock.proofs.all_reports.first_eight.Given as goal

abbrev pub invariant-loop-cell : goal.invariant-loop-cell
invariant-loop-cell l = record {
  octet : low_cells 8 l.recent ≡ last_eight (take l.cell-index l.cell-items);
}
