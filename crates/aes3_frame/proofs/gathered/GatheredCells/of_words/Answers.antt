use Rattle.std.proofs.Common.{arith}
use Rattle.aes3_frame.proofs.BlockLemmas.{block_subframes_384}
use Rattle.aes3_frame.proofs.gathered.GatheredCells.of_words.Goals as goal

pub returns-clause-len : goal.returns-clause-len
returns-clause-len c = let n = block_subframes_384 in omega arith
