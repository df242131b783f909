use Rattle.std.proofs.Common.{ap, ◌∙◌, take}
use Rattle.aes3_level.specs.Cells.{line}
use Rattle.aes3_slot.specs.Slots.{payload_len, subframe_runs}
use Rattle.aes3_frame.proofs.SlotWords.{payload-low}
use Rattle.aes3_block.proofs.read_cells.renew.Goals as goal

pub returns-then-wrong_in-eq0 : goal.returns-then-wrong_in-eq0
returns-then-wrong_in-eq0 c =
    c.wrong_in.ensures c.if-wrong_in-eq0.true
    ∙ ap (λ bits. line c.args.before (subframe_runs c.args.mark (take payload_len bits))) c.invert_if-same.ensures

pub returns : goal.returns
returns c =
    c.subframe_cells.ensures
    ∙ ap (λ bits. line c.args.before (subframe_runs c.args.mark bits))
    (payload-low c.slot_bits.result _ c.slot_bits.ensures.bits)
