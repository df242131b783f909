use Rattle.std.proofs.Common.{◌∙◌}
use Rattle.aes3_frame.proofs.SlotWords.{payload-low}
use Rattle.aes3_frame.proofs.block.word_of_cells.Goals as goal

pub returns-clause-payload : goal.returns-clause-payload
returns-clause-payload c = c.word_of_payload.ensures.payload ∙ payload-low c.slot_bits.result _ c.slot_bits.ensures.bits
