use Rattle.std.proofs.Common.{◌∙◌, ◌*◌, drop, length-drop, sym, arith, rules}
use Rattle.aes3_forms_samples.proofs.Formats.{zeros-next, zeros-not, zeros-short}
use Rattle.aes3_forms_samples.proofs.sample_format.seconds_are_zero.Goals as goal

pub returns-then-samples-i-ne0 : goal.returns-then-samples-i-ne0
returns-then-samples-i-ne0 c =
    let t = c.loop-i-test.true in
    sym (c.loop-i.invariant.done ∙ zeros-not c.args.samples.now c.loop-i.i (omega arith)
    (search (rules, c.if-samples-i-ne0.true)))

pub loop-i-preserved : goal.loop-i-preserved
loop-i-preserved c =
    let t = c.loop-i-test.true in
    record {
      done = c.loop-i.invariant.done
          ∙ zeros-next c.args.samples.now c.loop-i.i (omega arith) (search (rules, c.if-samples-i-ne0.false));
    }

pub returns : goal.returns
returns c =
    let xs = c.args.samples.now in
    let i = c.loop-i.i in
    let last = c.loop-i-test.false in
    let end = c.loop-i.auto.i-end in
    let l = length-drop (4 * i) xs in
    sym (c.loop-i.invariant.done ∙ zeros-short (drop (4 * i) xs) (omega arith))
