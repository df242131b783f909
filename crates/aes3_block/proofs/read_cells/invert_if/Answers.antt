use Rattle.std.proofs.Common.{arith}
use Rattle.aes3_frame.proofs.ReadCells.{read-not}
use Rattle.aes3_block.proofs.read_cells.invert_if.Goals as goal

pub returns-then-inverted : goal.returns-then-inverted
returns-then-inverted c = read-not c.args.cells (omega arith)
