use Rattle.std.proofs.Common.{arith}
use Rattle.aes3_frame.proofs.StatusBits.{bit-of-bytes}
use Rattle.aes3_frame.proofs.block.bit_of.Goals as goal

pub returns : goal.returns
returns c = bit-of-bytes c.args.bytes.now c.args.i (omega arith)
