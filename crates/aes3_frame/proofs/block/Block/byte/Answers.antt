use Rattle.std.proofs.Common.{arith, ◌*◌, ◌^◌, ◌%◌, ◌∙◌, ap, bit_or, drop}
use Rattle.aes3_frame.specs.Statuses.{place_of, bits_at}
use Rattle.aes3_frame.proofs.StatusBits.{byte-push, slice_get-drop}
use Rattle.aes3_frame.proofs.block.Block.byte.Goals as goal

pub loop-j-preserved : goal.loop-j-preserved
loop-j-preserved c =
    let bits = bits_at (place_of c.args.bit) c.args.self.now c.args.channel in
    record {
      byte = ap (λ shift. bit_or c.loop-j.byte (c.from.result * 2 ^ shift % 256)) (omega arith)
          ∙ byte-push (drop (8 * c.args.k) bits) c.loop-j.j c.loop-j.byte c.from.result c.bit.result (omega arith)
          (slice_get-drop (8 * c.args.k) bits c.loop-j.j ∙ c.bit.ensures) c.loop-j.invariant.byte c.from.ensures;
    }
