use Rattle.std.proofs.Common.{arith}
use Rattle.aes3_frame.proofs.SampleBlocks.{word-at}
use Rattle.aes3_frame.proofs.block.sample_at.Goals as goal

pub returns : goal.returns
returns c = let e = word-at c.args.bytes.now c.args.subframe (omega arith) in let q = c.from_le_bytes.ensures in omega arith
