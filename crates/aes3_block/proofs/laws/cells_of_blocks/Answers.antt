use Rattle.aes3_frame.proofs.CellLaws.{length-block_cells, block_len_24576, last-block_cells}
use Rattle.aes3_block.proofs.laws.cells_of_blocks.Goals as goal

pub returns-clause-count : goal.returns-clause-count
returns-clause-count c = λ s b h. (length-block_cells s b h, block_len_24576)

pub returns-clause-level : goal.returns-clause-level
returns-clause-level c = last-block_cells
