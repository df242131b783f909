use Rattle.std.proofs.Common.{◌∙◌, sym, arith, ◌/◌, ◌^◌, get_or, rules}
use Rattle.aes3_status.proofs.BitFields.{field-in_byte, byte-mask}
use Rattle.aes3_status.proofs.field.bits_at.Goals as goal

pub returns : goal.returns
returns c =
    search (rules, byte-mask (get_or c.args.bytes.now c.args.byte 0 / 2 ^ c.args.first) c.args.count (omega arith))
    ∙ sym (field-in_byte c.args.bytes.now c.args.byte c.args.first c.args.count (omega arith) c.requires.inside)
