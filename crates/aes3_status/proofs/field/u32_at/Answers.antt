use Rattle.std.proofs.Common.{ℕ, List, ◌+◌, ◌*◌, get_or, ap, ◌∙◌, sym, arith}
use Rattle.aes3_status.proofs.BitFields.{four-bytes, take-four}
use Rattle.aes3_status.proofs.field.u32_at.Goals as goal

pub returns : goal.returns
returns c =
    c.from_le_bytes.ensures
    ∙ ap (λ (four : List ℕ). get_or four 0 0 + get_or four 1 0 * 256 + get_or four 2 0 * 65536 + get_or
    four 3 0 * 16777216)
    (c.bytes_at.ensures ∙ sym (take-four c.args.bytes.now c.args.byte (omega arith)))
    ∙ sym (four-bytes c.args.bytes.now c.args.byte (omega arith) c.fits-bytes)
