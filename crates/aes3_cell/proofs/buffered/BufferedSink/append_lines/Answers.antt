use Rattle.std.proofs.Common.{◌≡◌, ◌+◌, ◌-◌, ◌++◌, ◌∙◌, length, drop, length-drop, ap, sym, arith, rules}
use Rattle.std.proofs.lemmas.List.{length-take-le}
use Rattle.std.specs.List.{length_refill}
use borrow.Rule.Slice.PartMut.{put_mid}
use Rattle.aes3_cell.specs.Buffering.{held}
use Rattle.aes3_cell.proofs.Buffering.{held-put}
use Rattle.aes3_cell.proofs.buffered.BufferedSink.append_lines.Goals as goal

pub fill_lines-requires : goal.fill_lines-requires
fill_lines-requires g c =
    let b = c.args.self.now in
    let s = c.as_mut_slice.result.now in
    let len = c.as_mut_slice.ensures.len in
    let d = length-drop b.end s in
    length-take-le (b.end + 1040 - b.end) (drop b.end s) (omega (arith, len, d, b.ordered, b.within, b.size))
    ∙ omega arith

pub returns-clause-held : goal.returns-clause-held
returns-clause-held g c =
    let b = c.args.self.now in
    let end = b.end + 1040 in
    let k = end - b.end in
    let s = c.as_mut_slice.result.now in
    let ys = c.fill_lines.new.text in
    let after = c.fill_lines.ensures in
    let auto = c.fill_lines.auto.text in
    let len = c.as_mut_slice.ensures.len in
    search (
      rules,
      held-put b.start b.end end k b.bytes.len b.bytes.items s ys
          (drop (length (put_mid b.end k s ys)) b.bytes.items) c.as_mut_slice.ensures.value
          b.ordered b.within (omega (arith, auto)) (omega (arith, len))
          ∙ ap (λ v. held b.start b.end b.bytes.items ++ v) after,
    )

pub invariant_of-self : goal.invariant_of-self
invariant_of-self g c =
    let b = c.args.self.now in
    let end = b.end + 1040 in
    let after = put_mid b.end (end - b.end) c.as_mut_slice.result.now c.fill_lines.new.text in
    let len : b.bytes.len ≡ length b.bytes.items = omega (arith, b.bytes.ok.0) in
    let size = sym (length_refill b.bytes.len b.bytes.items after len) ∙ len ∙ b.size in
    record { ordered = omega (arith, b.ordered); within = omega (arith, size); size = size }
