use Rattle.std.proofs.Common.{◌≡◌, ◌+◌, ◌-◌, ◌++◌, ◌∙◌, length, drop, ap, sym, arith}
use Rattle.std.specs.List.{length_refill}
use borrow.Rule.Slice.PartMut.{put_mid}
use Rattle.aes3_cell.specs.Buffering.{held}
use Rattle.aes3_cell.proofs.Buffering.{held-put}
use Rattle.aes3_cell.proofs.buffered.BufferedSink.append.Goals as goal

pub returns-clause-held : goal.returns-clause-held
returns-clause-held g c =
    let b = c.args.self.now in
    let end = b.end + length c.args.bytes.now in
    let k = end - b.end in
    let s = c.as_mut_slice.result.now in
    let ys = c.copy_from_slice.new.self in
    let after = c.copy_from_slice.ensures.after in
    let size = ap length after in
    let len = c.as_mut_slice.ensures.len in
    held-put b.start b.end end k b.bytes.len b.bytes.items s ys (drop (length (put_mid b.end k s ys)) b.bytes.items)
    c.as_mut_slice.ensures.value
    b.ordered b.within (omega (arith, size)) (omega (arith, len))
    ∙ ap (λ v. held b.start b.end b.bytes.items ++ v) after

pub invariant_of-self : goal.invariant_of-self
invariant_of-self g c =
    let b = c.args.self.now in
    let end = b.end + length c.args.bytes.now in
    let after = put_mid b.end (end - b.end) c.as_mut_slice.result.now c.copy_from_slice.new.self in
    let len : b.bytes.len ≡ length b.bytes.items = omega (arith, b.bytes.ok.0) in
    let size = sym (length_refill b.bytes.len b.bytes.items after len) ∙ len ∙ b.size in
    record { ordered = omega (arith, b.ordered); within = omega (arith, size); size = size }
