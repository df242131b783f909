use Rattle.std.proofs.Common.{rules}
use Rattle.aes3_slot.specs.Slots.{payload_len}
use Rattle.aes3_bits.proofs.Bits.{odd_ones-low_bits}
use Rattle.aes3_slot.proofs.subframe_encoding.payload_parity.Goals as goal

pub returns : goal.returns
unfolding payload_len
returns c = search (rules, odd_ones-low_bits 27 c.args.payload c.requires)
