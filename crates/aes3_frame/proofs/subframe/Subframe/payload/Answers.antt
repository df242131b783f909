use Rattle.std.proofs.Common.{rules}
use Rattle.aes3_slot.specs.Slots.{payload_len}
use Rattle.aes3_frame.specs.Subframes.{audio_len}
use Rattle.aes3_frame.proofs.BitLemmas.{low_bits-joined}
use Rattle.aes3_frame.proofs.subframe.Subframe.payload.Goals as goal

pub returns-clause-bits : goal.returns-clause-bits
unfolding payload_len audio_len
returns-clause-bits c =
    low_bits-joined 24 c.with_bit-bits.result c.with_bit-bits-2.result c.with_bit.result c.args.self.now.audio
    c.args.self.now.v c.args.self.now.u c.args.self.now.c
    (search (rules, c.with_bit-bits.ensures.bits)) (search (rules, c.with_bit-bits-2.ensures.bits))
    (search (rules, c.with_bit.ensures.bits))
