use Rattle.std.proofs.Common.{arith, rules}
use Rattle.aes3_frame.proofs.BitLemmas.{word-parity}
use Rattle.aes3_frame.proofs.block.has_right_parity.Goals as goal

pub returns : goal.returns
returns c = search (rules, word-parity c.args.word (omega arith))
