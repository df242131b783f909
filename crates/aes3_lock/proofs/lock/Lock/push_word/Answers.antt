use Rattle.std.proofs.Common.{◌≡◌, ◌++◌, subst, ap, ◌∙◌, sym, arith}
use Rattle.std.specs.Prelude.{option_map, option_to_list}
use Rattle.aes3_level.specs.Words.{low_cells, word_cells, word_len}
use Rattle.aes3_level.proofs.WordCells.{length-low_cells}
use Rattle.aes3_lock.specs.Reports.{decided}
use Rattle.aes3_lock.specs.Following.{Follows, report_in}
use Rattle.aes3_lock.proofs.Spacing.{few-told}
use Rattle.aes3_lock.proofs.PushedWords.{more-follows, more-told}
use Rattle.aes3_lock.proofs.lock.Lock.push_word.Goals as goal

pub loop-taken-preserved : goal.loop-taken-preserved
loop-taken-preserved c =
    let e = c.push_front-pushed.ensures in
    let i = c.loop-taken.invariant in
    let t = c.loop-taken-test.true in record {
      within = let w = e.within in omega (arith, w, t);
      seen = let w = e.seen in let s = i.seen in omega (arith, w, s);
      follows = λ l f. more-follows c.loop-taken.self c.push_front-pushed.new.self l c.loop-taken.taken
          c.push_front-pushed.result.taken c.args.word e.follows (i.follows l f);
      reports = λ l f. more-told c.loop-taken.self l c.loop-taken.taken c.push_front-pushed.result.taken c.args.word
          c.loop-taken.out.items c.tell.new.out.items
          (option_to_list (option_map (report_in c.push_front-pushed.new.self) c.push_front-pushed.result.ending))
          (let w = i.within in omega (arith, w))
          e.report (i.follows l f) (i.reports l f) c.tell.ensures;
    }

pub returns-clause-follows : goal.returns-clause-follows
unfolding word_cells word_len
returns-clause-follows c = λ l f.
    let i = c.loop-taken.invariant in
    let t = c.loop-taken-test.false in
    let e : c.loop-taken.taken ≡ 64 = (let w = i.within in omega (arith, w, t)) in
    subst (λ n. Follows c.loop-taken.self (l ++ low_cells n c.args.word)) e (i.follows l f)

pub returns-clause-reports : goal.returns-clause-reports
unfolding word_cells word_len
returns-clause-reports c = λ l f.
    let i = c.loop-taken.invariant in
    let t = c.loop-taken-test.false in
    let e : c.loop-taken.taken ≡ 64 = (let w = i.within in omega (arith, w, t)) in
    ap (λ n. decided (l ++ low_cells n c.args.word)) (sym e) ∙ i.reports l f

pub returns-clause-few : goal.returns-clause-few
returns-clause-few c = λ l f.
    let i = c.loop-taken.invariant in
    let t = c.loop-taken-test.false in
    let e : c.loop-taken.taken ≡ 64 = (let w = i.within in omega (arith, w, t)) in
    few-told l (low_cells c.loop-taken.taken c.args.word) c.loop-taken.out.items
    (let n = length-low_cells c.loop-taken.taken c.args.word in omega (arith, n, e)) (i.reports l f)
