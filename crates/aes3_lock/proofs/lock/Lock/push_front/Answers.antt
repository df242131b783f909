use Rattle.std.proofs.Common.{◌≡◌, ◌+◌, ◌-◌, ◌++◌, sym, ap, ◌∙◌, arith, append-nil}
use Rattle.aes3_level.specs.Words.{low_cells}
use Rattle.aes3_lock.specs.Reports.{decided}
use Rattle.aes3_lock.specs.Following.{report_in}
use Rattle.aes3_lock.proofs.HeldBlocks.{more-held, none-held}
use Rattle.aes3_lock.proofs.PushedWords.{more-follows, more-none, more-reports, no-ending}
use Rattle.aes3_lock.proofs.lock.Lock.push_front.Goals as goal

-- some more cells tell nothing
pub loop-taken-preserved : goal.loop-taken-preserved
loop-taken-preserved c =
    let e = c.step-pushed.ensures in
    let i = c.loop-taken.invariant in
    let k = c.loop-taken.self in
    let n = c.loop-taken.taken in
    let m = c.step-pushed.result.taken in
    let q = no-ending (report_in c.step-pushed.new.self) c.step-pushed.result.ending (sym c.is_some.ensures
    ∙ c.if-is_some.false) in
    record {
      within = (let h = e.within in let t = i.within in omega (arith, h, t));
      seen = (let h = e.seen in let s = i.seen in omega (arith, h, s));
      follows = λ l f. more-follows k c.step-pushed.new.self l n m c.args.word e.follows (i.follows l f);
      none = λ l f. more-reports k l n m c.args.word _ e.report (i.follows l f) (i.none l f)
          ∙ ap (λ r. decided l ++ r) q ∙ append-nil (decided l);
    }

-- or an ending
pub returns-then-is_some-clause-follows : goal.returns-then-is_some-clause-follows
returns-then-is_some-clause-follows c = λ l f.
    more-follows c.loop-taken.self c.step-pushed.new.self l c.loop-taken.taken c.step-pushed.result.taken c.args.word
    c.step-pushed.ensures.follows (c.loop-taken.invariant.follows l f)

pub returns-then-is_some-clause-report : goal.returns-then-is_some-clause-report
returns-then-is_some-clause-report c = λ l f.
    more-reports c.loop-taken.self l c.loop-taken.taken c.step-pushed.result.taken c.args.word _
    c.step-pushed.ensures.report (c.loop-taken.invariant.follows l f) (c.loop-taken.invariant.none l f)

pub returns-then-is_some-clause-last : goal.returns-then-is_some-clause-last
returns-then-is_some-clause-last c = λ ended l f.
    let n = c.loop-taken.taken in
    let m = c.step-pushed.result.taken in
    let s = c.step-pushed.ensures.some in
    ap (λ i. decided (l ++ low_cells i c.args.word)) (let e : n + m - 1 ≡ n + (m - 1) = omega (arith, s) in e)
    ∙ more-none c.loop-taken.self l n (m - 1) c.args.word (c.step-pushed.ensures.last ended)
    (c.loop-taken.invariant.follows l f) (c.loop-taken.invariant.none l f)

pub returns-then-is_some-clause-held : goal.returns-then-is_some-clause-held
returns-then-is_some-clause-held c = λ l f.
    more-held c.step-pushed.new.self.words l c.loop-taken.taken c.step-pushed.result.taken c.args.word
    c.step-pushed.result.ending
    (c.step-pushed.ensures.held (l ++ low_cells c.loop-taken.taken c.args.word) (c.loop-taken.invariant.follows l f))

pub returns-clause-held : goal.returns-clause-held
returns-clause-held c = λ l f.
    none-held c.loop-taken.self.words (l ++ low_cells c.quiet.result.taken c.args.word) c.quiet.result.ending
    c.quiet.ensures.ending
