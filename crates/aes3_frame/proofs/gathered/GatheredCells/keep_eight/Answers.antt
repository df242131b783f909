use Rattle.std.proofs.Common.{◌+◌, ◌∙◌, sym, ap, subst, get_or, arith}
use Rattle.aes3_frame.specs.Blocks.{mark_at}
use Rattle.aes3_frame.specs.Gathered.{IsRight}
use Rattle.aes3_frame.proofs.GatheredWords.{right-behind, with_first-below, with_first-at}
use Rattle.aes3_frame.proofs.gathered.GatheredCells.keep_eight.Goals as goal

pub invariant_of-self : goal.invariant_of-self
invariant_of-self c =
    let v = c.self.inside in
    let subframe = c.args.subframe in
    let new = c.put_eight.new.words in
    let l = c.self.told in
    let w = c.requires.within in
    right-behind v.before c.args.before v.right c.right_behind-self-inside.result subframe 8 v.words new c.self.invariant
    c.right_behind-self-inside.ensures
    (λ j h. ap (λ ws. get_or ws j 0) c.put_eight.ensures ∙ with_first-below subframe v.words c.args.subframes.now 8 j h)
    (λ i h. subst (IsRight c.args.before (mark_at (subframe + i)))
    (sym (ap (λ ws. get_or ws (subframe + i) 0) c.put_eight.ensures
    ∙ with_first-at subframe v.words c.args.subframes.now 8 i (omega (arith, l, w)) h))
    (c.requires.right i h))
