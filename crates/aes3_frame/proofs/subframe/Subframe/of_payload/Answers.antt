use Rattle.std.proofs.Common.{rules}
use Rattle.aes3_slot.specs.Slots.{payload_len}
use Rattle.aes3_frame.specs.Subframes.{audio_len}
use Rattle.aes3_frame.proofs.BitLemmas.{low_bits-read}
use Rattle.aes3_frame.proofs.subframe.Subframe.of_payload.Goals as goal

pub returns : goal.returns
unfolding payload_len audio_len
returns c = low_bits-read 24 c.args.payload c.has_bit.result c.has_bit-2.result c.has_bit-3.result
    (search (rules, c.has_bit.ensures))
    (search (rules, c.has_bit-2.ensures)) (search (rules, c.has_bit-3.ensures))
