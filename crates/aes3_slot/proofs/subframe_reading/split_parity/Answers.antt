use Rattle.std.proofs.Common.{rules}
use Rattle.aes3_slot.specs.Slots.{payload_len, slots_len}
use Rattle.aes3_slot.proofs.Parity.{split-word}
use Rattle.aes3_slot.proofs.subframe_reading.split_parity.Goals as goal

pub returns-clause-bits : goal.returns-clause-bits
unfolding payload_len slots_len
returns-clause-bits c = search (rules, split-word 27 c.args.slots c.requires)
