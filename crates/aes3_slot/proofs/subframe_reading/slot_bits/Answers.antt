use Rattle.std.proofs.Common.{arith, rules}
use Rattle.aes3_level.specs.Words.{word_cells, word_len}
use Rattle.aes3_slot.specs.Slots.{slots_len}
use Rattle.aes3_slot.proofs.ReadWords.{slots-read, slots-lt}
use Rattle.aes3_slot.proofs.subframe_reading.slot_bits.Goals as goal

pub returns-clause-bits : goal.returns-clause-bits
unfolding word_cells word_len slots_len
returns-clause-bits c = slots-read c.args.cells c.gather.result (search (rules, c.gather.ensures))

pub returns-clause-bound : goal.returns-clause-bound
returns-clause-bound c = slots-lt c.args.cells c.gather.result (omega arith) (omega arith) (search (rules, c.gather.ensures))
