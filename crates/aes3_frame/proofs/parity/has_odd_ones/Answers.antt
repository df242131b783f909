use Rattle.std.proofs.Common.{arith}
use Rattle.aes3_frame.proofs.SlotWords.{odd-word}
use Rattle.aes3_frame.proofs.parity.has_odd_ones.Goals as goal

pub returns : goal.returns
returns c = odd-word c.args.cells (omega arith)
