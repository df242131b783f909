use Rattle.std.proofs.Common.{◌≡◌, ◌++◌, drop}
use Rattle.aes3_lock.specs.Reports.{reports_from, reports}
use Rattle.aes3_lock.proofs.all_reports.reports_of.Given as goal

abbrev pub invariant-loop-at : goal.invariant-loop-at
invariant-loop-at l = record {
  found : l.found.items ++ reports_from l.at (drop l.at l.cells) ≡ reports l.cells;
}
