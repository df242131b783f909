use Rattle.std.proofs.Common.{◌≡◌, ◌+◌, None, ap, ◌∙◌, rules}
use Rattle.std.proofs.lemmas.Result.{err_from_is_err_and}
use Rattle.aes3_watch.proofs.GapWrites.{gaps-next, gaps-fail, gaps-behind}
use Rattle.aes3_watch.proofs.EventWrites.{wrote-failed}
use Rattle.aes3_watch.proofs.ledger.Ledger.tell_gaps.Goals as goal

pub loop-gap-preserved : goal.loop-gap-preserved
loop-gap-preserved g c =
    let v = c.loop-gap.invariant in
    let n = c.next.ensures in
    let x = c.in-Some.gap in
    let e = c.in-Some.is in
    let t = c.tell_gap.ensures in
    record {
      told = rw t.account (gaps-next _ c.next.new.self.place c.tell_gap.new.self.lost x v.told (n.gap x e)
          (n.further x e) (n.within x e) n.behind t.lost (rw v.lines at c.in_ok-tell_gap.ensures.wrote.grew));
      lines = t.lines ∙ v.lines;
      found = ap (λ a. a.found) t.account ∙ n.found ∙ v.found;
      quiet = c.in_ok-tell_gap.ensures.wrote.no_failure ∙ v.quiet;
    }

pub returns-in_err-tell_gap-clause-wrote : goal.returns-in_err-tell_gap-clause-wrote
returns-in_err-tell_gap-clause-wrote g c =
    let v = c.loop-gap.invariant in
    let x = c.in-Some.gap in
    let p = err_from_is_err_and c.from_residual.result c.from_residual.ensures.1 in
    let f = c.in_err-tell_gap.ensures.wrote.err in
    rw p.1 (wrote-failed (f.0 ∙ ap (λ m. m + 1) v.quiet)
    (gaps-fail _ c.next.new.self.place x v.told (c.next.ensures.gap x c.in-Some.is) (rw v.lines at f.1)))

pub returns-clause-place : goal.returns-clause-place
returns-clause-place g c =
    let n : c.next.result ≡ None = search rules in
    λ e. c.next.ensures.left n ∙ gaps-behind c.loop-gap.invariant.told (c.next.ensures.none n) e
