use Rattle.std.proofs.Common.{◌-◌, ◌≤◌, drop}
use Rattle.aes3_cell.specs.Packed.{cells_of_octets}
use Rattle.aes3_c.specs.Taking.{TookQuiet}
use Rattle.aes3_c.proofs.octet_calls.take_cells.Given as goal

abbrev pub invariant-loop-taken : goal.invariant-loop-taken
invariant-loop-taken l = record {
  within : l.taken ≤ l.len;
  quiet : TookQuiet l.fn.state l.state (drop l.first (cells_of_octets l.octets)) l.taken;
}

abbrev pub decreases-loop-taken : goal.decreases-loop-taken
decreases-loop-taken l = l.len - l.taken
