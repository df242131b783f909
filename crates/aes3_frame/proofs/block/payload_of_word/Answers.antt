use Rattle.std.proofs.Common.{◌/◌}
use Rattle.aes3_slot.specs.Slots.{payload_len}
use Rattle.aes3_frame.proofs.BitLemmas.{low_bits-mod}
use Rattle.aes3_frame.proofs.block.payload_of_word.Goals as goal

pub returns-clause-bits : goal.returns-clause-bits
unfolding payload_len
returns-clause-bits c = low_bits-mod 27 (c.args.word / 16)
