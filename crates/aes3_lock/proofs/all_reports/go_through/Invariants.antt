use Rattle.std.proofs.Common.{◌≡◌}
use Rattle.aes3_lock.proofs.OnePlace.{Walked}
use Rattle.aes3_lock.proofs.all_reports.go_through.Given as goal

abbrev pub invariant-loop-cell : goal.invariant-loop-cell
invariant-loop-cell l = record {
  count : l.offset ≡ l.cell-index;
  walked : Walked l.fn.level_before l.cells l.subframe l.words l.level l.previous l.offset;
}
