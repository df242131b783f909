use Rattle.aes3_frame.proofs.BlockLemmas.{zeros-lawful, zeros-payloads}
use Rattle.aes3_frame.proofs.block.Block.zero.Goals as goal

pub invariant_of-result : goal.invariant_of-result
invariant_of-result c = λ i h. zeros-lawful c.zero_words.result c.zero_words.ensures i

pub returns : goal.returns
returns c = zeros-payloads c.zero_words.result c.zero_words.ensures
