use Rattle.std.proofs.Common.{ℕ, ◌≡◌, ◌+◌, ◌<◌, sym, subst, set, get_or, get_or-set_same, get_or-set_other, arith}
use Rattle.aes3_frame.specs.Blocks.{mark_at}
use Rattle.aes3_frame.specs.Gathered.{IsRight}
use Rattle.aes3_frame.proofs.GatheredWords.{right-behind, one-more}
use Rattle.aes3_frame.proofs.gathered.GatheredCells.keep.Goals as goal

pub invariant_of-self : goal.invariant_of-self
invariant_of-self c =
    let v = c.self.inside in
    let subframe = c.args.subframe in
    let x = c.args.cells in
    let l = c.self.told in
    let put : (i : ℕ) → i < c.from-more.result
    → IsRight c.args.before (mark_at (subframe + i)) (get_or (set v.words subframe x) (subframe + i) 0) = λ i h.
    let one = one-more c.wrong_in.result c.from-more.result i c.from-more.ensures h in
    let here : subframe ≡ subframe + i = omega (arith, one.0) in
    subst (λ k. IsRight c.args.before (mark_at k) (get_or (set v.words subframe x) k 0)) here
    (subst (IsRight c.args.before (mark_at subframe)) (sym (get_or-set_same v.words subframe x 0 (omega (arith, l))))
    (subst (λ m. IsRight c.args.before m x) c.mark_of.ensures (c.wrong_in.ensures one.1)))
    in
    right-behind v.before c.args.before v.right c.right_behind-self-inside.result subframe c.from-more.result v.words
    (set v.words subframe x) c.self.invariant
    c.right_behind-self-inside.ensures
    (λ j h. get_or-set_other v.words subframe j x 0 (λ e. omega (arith, h, e)))
    put
