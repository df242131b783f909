use Rattle.aes3_frame.specs.Blocks.{block_subframes}
use Rattle.aes3_frame.proofs.block.Block.words.Goals as goal

pub returns-clause-count : goal.returns-clause-count
unfolding block_subframes
returns-clause-count c = c.self.told
