use Rattle.std.proofs.Common.{◌≡◌, ◌≤◌, ◌-◌, ◌*◌, length}
use Rattle.std.specs.Prelude.{min}
use Rattle.aes3_capture.specs.Captures.{sum_to}
use Rattle.aes3_capture_recovery.specs.Finding.{sums_to}
use Rattle.aes3_capture_recovery.proofs.period.period_of.Given as goal

abbrev pub invariant-loop-i : goal.invariant-loop-i
invariant-loop-i l = record {
  at_is : l.at ≡ sum_to l.runs l.i;
  cell_is : l.cell ≡ sum_to l.cells l.i;
  early_is : l.early ≡ sums_to l.runs 0 (min l.i 16);
  early_cells_is : l.early_cells ≡ sums_to l.cells 0 (min l.i 16);
  late_is : l.late ≡ sums_to l.runs (length l.runs - 15) (l.i - (length l.runs - 16));
  late_cells_is : l.late_cells ≡ sums_to l.cells (length l.runs - 15) (l.i - (length l.runs - 16));
  at_few : l.at ≤ l.i * 4294967295;
  cell_few : l.cell ≤ l.i * 4294967295;
  early_few : l.early ≤ l.i * 1099511627520;
  early_cells_few : l.early_cells ≤ l.i * 1099511627520;
  late_few : l.late ≤ l.i * 1099511627520;
  late_cells_few : l.late_cells ≤ l.i * 1099511627520;
}
