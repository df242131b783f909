use Rattle.std.proofs.Common.{◌∙◌, ◌+◌, ◌-◌, ◌*◌, ◌/◌, ap}
use Rattle.aes3_c.specs.Marks.{mark_in}
use Rattle.aes3_c.proofs.place_calls.aes3_sample_between.Goals as goal

pub returns-clause-place : goal.returns-clause-place
returns-clause-place c = λ known levels one two from to _.
    let before = c.args.before.now in
    let after = c.args.after.now in
    record {
      before = mark_in before;
      after = mark_in after;
      is_before = one;
      is_after = two;
      from = from;
      to = to;
      sample_is = ap (λ n. before.samples + n)
          (c.share.ensures.share
          ∙ ap (λ n. n * (c.args.cell - before.cells) / (after.cells - before.cells)) c.saturating_sub-samples.ensures);
    }
