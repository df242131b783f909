use Rattle.aes3_frame.specs.Blocks.{block_subframes}
use Rattle.aes3_frame.proofs.gathered.GatheredCells.new.Goals as goal

pub returns : goal.returns
unfolding block_subframes
returns c = c.of_words.ensures.words
