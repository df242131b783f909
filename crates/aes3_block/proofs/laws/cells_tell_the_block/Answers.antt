use Rattle.aes3_frame.proofs.CellLaws.{block_cells-unique}
use Rattle.aes3_block.proofs.laws.cells_tell_the_block.Goals as goal

pub returns : goal.returns
returns c = block_cells-unique
