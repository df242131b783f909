use Rattle.std.proofs.Common.{◌+◌, [], length, ltb, refl, sym, ap, ◌∙◌, append-nil, arith}
use Rattle.std.specs.Prelude.{false}
use Rattle.std.specs.List.{filter}
use Rattle.std.proofs.lemmas.Result.{err_from_is_err_and, IfOk-weaker}
use Rattle.aes3_cell.proofs.Growing.{grew-is, front-is, front-more}
use Rattle.aes3_cell.proofs.Writing.{wrote-behind, wrote-is}
use Rattle.aes3_lock.specs.Following.{report_in}
use Rattle.aes3_lock_gaps.specs.Gaps.{accounted, behind_report, gaps, is_lost}
use Rattle.aes3_lock_runs.proofs.Listening.{end-none, end-one}
use Rattle.aes3_watch.specs.GapLines.{account_lines}
use Rattle.aes3_watch.proofs.Accounts.{close-accounts, close-lines, close_with-accounts, close_with-lines, lost-room}
use Rattle.aes3_watch.proofs.Accounts.{near-last, reached-is, report-lines}
use Rattle.aes3_watch.proofs.GapWrites.{due-all}
use Rattle.aes3_watch.proofs.EventWrites.{wrote-failed}
use Rattle.aes3_watch.proofs.ledger.LedgerListener.end.Goals as goal

pub tell-requires-clause-few : goal.tell-requires-clause-few
tell-requires-clause-few g c =
    let h = c.requires.following in
    let n = c.args.lock.now.seen in
    let e = h.1.follows.seen in
    let l = lost-room h.0 [] n h.2.accounts (e ∙ ap length (sym (append-nil h.0))) c.requires.few in
    let p = near-last h.0 (report_in c.args.lock.now c.in-Some.ending) n (end-one c.in-Some.is h.1) e in
    omega (arith, l, p, c.requires.few)

pub tell-requires-clause-near : goal.tell-requires-clause-near
tell-requires-clause-near g c =
    let h = c.requires.following in
    let p = near-last h.0 (report_in c.args.lock.now c.in-Some.ending) c.args.lock.now.seen (end-one c.in-Some.is h.1)
    h.1.follows.seen in
    omega (arith, p, c.requires.few)

pub tell-requires-clause-found : goal.tell-requires-clause-found
tell-requires-clause-found g c = let h = c.requires.following in h.2.found_is ∙ ap (ltb 0) (sym h.1.blocks)

pub tell_gaps-requires-clause-few : goal.tell_gaps-requires-clause-few
tell_gaps-requires-clause-few g c =
    let h = c.requires.following in
    let n = c.args.lock.now.seen in
    let e = h.1.follows.seen in
    let l = lost-room h.0 [] n h.2.accounts (e ∙ ap length (sym (append-nil h.0))) c.requires.few in
    let p = near-last h.0 (report_in c.args.lock.now c.in-Some.ending) n (end-one c.in-Some.is h.1) e in
    omega (arith, l, p, c.requires.few, c.in_ok-tell-in-Some.ensures.few, c.end.ensures.to, c.seen.ensures)

pub tell_gaps-requires-in-None-clause-few : goal.tell_gaps-requires-in-None-clause-few
tell_gaps-requires-in-None-clause-few g c =
    let h = c.requires.following in
    let l = lost-room h.0 [] c.args.lock.now.seen h.2.accounts
    (h.1.follows.seen ∙ ap length (sym (append-nil h.0))) c.requires.few in
    omega (arith, l, c.requires.few, c.end-in-None.ensures.to, c.seen-in-None.ensures)

pub returns-in_err-tell-in-Some-clause-wrote : goal.returns-in_err-tell-in-Some-clause-wrote
returns-in_err-tell-in-Some-clause-wrote g c =
    let k = c.args.self.now in
    let x = report_in c.args.lock.now c.in-Some.ending in
    let p = err_from_is_err_and c.from_residual.result c.from_residual.ensures.1 in
    let w = c.in_err-tell-in-Some.ensures.wrote in
    rw p.1 (λ d h f.
    let r = behind_report (accounted d) x in wrote-failed w.err.0
    (front-is (close_with-lines k.lines r (length d) d x refl refl (end-one c.in-Some.is h))
    (front-more (front-is (report-lines k.lines c.args.blocks k.account.place d x h.blocks f.accounts.place_is)
    w.err.1) (account_lines k.lines (gaps false r (length d))))))

pub returns-in_ok-tell-in-Some-clause-done : goal.returns-in_ok-tell-in-Some-clause-done
returns-in_ok-tell-in-Some-clause-done g c =
    let m = c.tell.new.self in
    let x = report_in c.args.lock.now c.in-Some.ending in
    let u = c.end.result in
    let t = c.in_ok-tell-in-Some.ensures in
    IfOk-weaker c.tell_gaps.result _ _ (λ v lost d h f.
    close_with-accounts m.account.place m.lost c.tell_gaps.new.self.lost c.seen.result d x f.accounts
    (end-one c.in-Some.is h) (c.seen.ensures ∙ h.follows.seen) (omega (arith, c.seen.ensures, c.requires.few))
    t.place t.lost h.blocks
    (lost ∙ ap (λ z. m.lost + length (filter is_lost z))
    (due-all m.account.place c.seen.result u c.end.ensures.to c.end.ensures.short))) c.tell_gaps.ensures.lost

pub returns-in_ok-tell-in-Some-clause-wrote : goal.returns-in_ok-tell-in-Some-clause-wrote
returns-in_ok-tell-in-Some-clause-wrote g c =
    let k = c.args.self.now in
    let m = c.tell.new.self in
    let x = report_in c.args.lock.now c.in-Some.ending in
    let u = c.end.result in
    let t = c.in_ok-tell-in-Some.ensures in
    λ d h f.
    wrote-is (close_with-lines k.lines m.account.place c.seen.result d x
    (reached-is m.account.place d x f.accounts t.place) (c.seen.ensures ∙ h.follows.seen) (end-one c.in-Some.is h))
    (wrote-behind c.tell_gaps.result t.wrote.no_failure
    (grew-is (report-lines k.lines c.args.blocks k.account.place d x h.blocks f.accounts.place_is) t.wrote.grew)
    (wrote-is (ap (account_lines k.lines)
    (due-all m.account.place c.seen.result u c.end.ensures.to c.end.ensures.short))
    (rw c.tell.ensures.lines at c.tell_gaps.ensures.wrote)))

pub returns-in-None-clause-done : goal.returns-in-None-clause-done
returns-in-None-clause-done g c =
    let k = c.args.self.now in
    let u = c.end-in-None.result in
    IfOk-weaker c.tell_gaps-in-None.result _ _ (λ v lost d h f.
    close-accounts c.tell_gaps-in-None.new.self.lost c.seen-in-None.result d f.accounts (end-none c.in-None.is h)
    (c.seen-in-None.ensures ∙ h.follows.seen) (omega (arith, c.seen-in-None.ensures, c.requires.few))
    (lost ∙ ap (λ z. k.lost + length (filter is_lost z))
    (due-all k.account.place c.seen-in-None.result u c.end-in-None.ensures.to c.end-in-None.ensures.short)))
    c.tell_gaps-in-None.ensures.lost

pub returns-in-None-clause-wrote : goal.returns-in-None-clause-wrote
returns-in-None-clause-wrote g c =
    let k = c.args.self.now in
    let u = c.end-in-None.result in
    λ d h f.
    wrote-is (ap (account_lines k.lines)
    (due-all k.account.place c.seen-in-None.result u c.end-in-None.ensures.to c.end-in-None.ensures.short)
    ∙ close-lines k.lines k.account.place c.seen-in-None.result d f.accounts.place_is
    (c.seen-in-None.ensures ∙ h.follows.seen) (end-none c.in-None.is h)) c.tell_gaps-in-None.ensures.wrote
