use Rattle.std.proofs.Common.{◌+◌, ◌∙◌, ap, sym, set, get_or, length-set, add-one}
use Rattle.aes3_frame.specs.Gathered.{with_first}
use Rattle.aes3_frame.proofs.gathered.put_eight.Goals as goal

pub loop-i-preserved : goal.loop-i-preserved
loop-i-preserved c =
    let i = c.loop-i.i in
    let x = get_or c.args.subframes.now i 0 in
    record {
      len = length-set c.loop-i.words (c.args.subframe + i) x ∙ c.loop-i.invariant.len;
      kept = ap (λ w. set w (c.args.subframe + i) x) c.loop-i.invariant.kept
          ∙ ap (with_first c.args.subframe c.args.words.now c.args.subframes.now) (sym (add-one i));
    }
