use Rattle.std.proofs.Common.{ap, ◌≡◌, ◌+◌, ◌*◌, ◌∙◌, sym, take, arith, rules}
use Rattle.aes3_frame.specs.Statuses.{place_of, bits_of_bytes, with_bits_at}
use Rattle.aes3_frame.proofs.StatusBits.{with_bits-none, frames-push, frames-all}
use Rattle.aes3_frame.proofs.block.Block.set_bytes.Goals as goal

pub loop-k-init : goal.loop-k-init
loop-k-init c = record { frames = sym (with_bits-none (place_of c.args.bit) c.args.channel c.args.self.now) }

pub loop-j-preserved : goal.loop-j-preserved
loop-j-preserved c =
    let i = 8 * c.loop-k.k + c.loop-j.j in
    record {
      frames = frames-push (place_of c.args.bit) c.args.channel c.args.self.now c.loop-j.self c.set_bit.new.self
          (bits_of_bytes c.args.bytes.now) i _ _ _ c.loop-j.invariant.frames (search (rules, c.bit_of.ensures))
          (omega arith) (omega arith) c.set_bit.ensures
          ∙ ap (λ n. with_bits_at (place_of c.args.bit) c.args.channel c.args.self.now
          (take n (bits_of_bytes c.args.bytes.now)))
          (let e : i + 1 ≡ 8 * c.loop-k.k + (c.loop-j.j + 1) = omega arith in e);
    }

pub returns : goal.returns
returns c = frames-all (place_of c.args.bit) c.args.channel c.args.self.now c.loop-k.self c.args.bytes.now
    (8 * c.loop-k.k) (omega arith) (omega arith) c.loop-k.invariant.frames
