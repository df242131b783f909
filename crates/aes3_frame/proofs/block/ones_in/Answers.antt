use Rattle.std.proofs.Common.{refl, sym, ap₂, ◌∙◌, ◌+◌, arith}
use Rattle.std.specs.Prelude.{count_ones}
use Rattle.std.proofs.lemmas.List.Sums.{sum_by_more}
use Rattle.aes3_frame.specs.Ones.{ones_in}
use Rattle.aes3_frame.proofs.block.ones_in.Goals as goal

pub loop-byte-init : goal.loop-byte-init
unfolding ones_in
loop-byte-init c = record { sum = refl; few = omega arith }

pub loop-byte-preserved : goal.loop-byte-preserved
unfolding ones_in
loop-byte-preserved c =
    let l = c.loop-byte in
    let f = c.ones-found.ensures.few in
    let g = l.invariant.few in
    record {
      sum = ap₂ (λ x y. x + y) l.invariant.sum c.ones-found.ensures.ones
          ∙ sym (sum_by_more count_ones c.args.bytes.now l.byte-index 0 (omega arith));
      few = omega arith;
    }
