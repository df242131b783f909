use Rattle.std.proofs.Common.{arith}
use Rattle.aes3_level.specs.Words.{word_cells, word_len}
use Rattle.aes3_slot.proofs.Turns.{low_cells-not}
use Rattle.aes3_block.proofs.read_cells.invert.Goals as goal

pub returns : goal.returns
unfolding word_cells word_len
returns c = low_cells-not 64 c.args.cells (omega arith) (omega arith)
