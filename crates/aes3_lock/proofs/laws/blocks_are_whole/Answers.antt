use Rattle.aes3_lock.proofs.PieceBlocks.{blocks-whole}
use Rattle.aes3_lock.proofs.laws.blocks_are_whole.Goals as goal

pub returns : goal.returns
returns c = blocks-whole
