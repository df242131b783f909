use Rattle.std.proofs.Common.{ap, ◌∙◌, arith, rules}
use Rattle.aes3_level.specs.Cells.{line}
use Rattle.aes3_slot.specs.Slots.{payload_len, slot_runs, slots_len}
use Rattle.aes3_bits.proofs.Bits.{low_bits-with_parity}
use Rattle.aes3_slot.proofs.subframe_encoding.subframe_cells.Goals as goal

pub returns : goal.returns
unfolding slots_len payload_len
returns c =
    c.slots_cells.ensures
    ∙ ap (λ bits. line c.args.before (slot_runs c.args.mark bits))
    (low_bits-with_parity 27 32 c.args.payload c.from-parity.result c.payload_parity.result
    (omega arith) c.requires (search (rules, c.from-parity.ensures)) c.payload_parity.ensures)
