use Rattle.std.proofs.Common.{arith, rules, ◌+◌, ◌∙◌, ap, set, take, length-set}
use Rattle.aes3_frame.specs.Statuses.{place_of, bits_at}
use Rattle.aes3_frame.proofs.StatusBits.{bytes-push, bytes-all}
use Rattle.aes3_frame.proofs.block.Block.bytes.Goals as goal

pub loop-k-preserved : goal.loop-k-preserved
loop-k-preserved c = record {
  bytes = ap (λ byte. take (c.loop-k.k + 1) (set c.loop-k.bytes c.loop-k.k byte)) (search rules)
      ∙ bytes-push c.loop-k.k c.byte.result c.loop-k.bytes
      (bits_at (place_of c.args.bit) c.args.self.now c.args.channel) (omega arith)
      c.loop-k.invariant.bytes c.byte.ensures;
  len = length-set c.loop-k.bytes c.loop-k.k _ ∙ c.loop-k.invariant.len;
}

pub returns : goal.returns
returns c = bytes-all c.loop-k.k c.loop-k.bytes (bits_at (place_of c.args.bit) c.args.self.now c.args.channel)
    (omega arith) c.loop-k.invariant.len c.loop-k.invariant.bytes
