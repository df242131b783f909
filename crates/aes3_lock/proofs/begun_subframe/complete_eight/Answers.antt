use Rattle.std.proofs.Common.{◌∙◌, get_or, arith, length-set}
use Rattle.aes3_lock.proofs.EightWords.{one-completed}
use Rattle.aes3_lock.proofs.begun_subframe.complete_eight.Goals as goal

pub loop-i-preserved : goal.loop-i-preserved
loop-i-preserved c =
    let i = c.loop-i.i in
    let front = get_or c.fronts_of-fronts.result i 0 in
    let len = c.loop-i.invariant.len in
    record {
      len = length-set c.loop-i.subframes i c.complete_subframe.result ∙ len;
      told = λ h. one-completed c.args.len c.args.begun c.complete_subframe.result front c.args.words.now c.loop-i.subframes i
          (omega arith)
          (c.fronts_of-fronts.ensures.cells i (omega arith))
          (c.complete_subframe.ensures (c.fronts_of-fronts.ensures.few h i (omega arith))) (c.loop-i.invariant.told h);
    }
