use Rattle.std.proofs.Common.{arith, rules}
use Rattle.aes3_capture_recovery.proofs.WordBits.{high-bits, low_cells-none}
use Rattle.aes3_capture_recovery.proofs.queue.bits_of_cells.Goals as goal

pub returns-then-high-clause-cells : goal.returns-then-high-clause-cells
returns-then-high-clause-cells c = rw c.if-high.true (search (rules, high-bits c.args.cells (omega (arith, c.requires))))

pub returns-else-high-clause-cells : goal.returns-else-high-clause-cells
returns-else-high-clause-cells c = rw c.if-high.false (low_cells-none c.args.cells)
