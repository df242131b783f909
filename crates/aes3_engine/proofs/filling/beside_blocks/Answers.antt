use Rattle.std.proofs.Common.{arith}
use Rattle.aes3_engine.specs.Filling.{block_frames}
use Rattle.aes3_engine.proofs.filling.beside_blocks.Goals as goal

pub returns : goal.returns
unfolding block_frames
returns c = λ b e. omega arith
