use Rattle.std.proofs.Common.{◌+◌, ◌-◌, ◌++◌, length, ltb, refl, sym, ap, ◌∙◌, arith}
use Rattle.std.specs.List.{filter}
use Rattle.std.proofs.lemmas.Result.{err_from_is_err_and}
use Rattle.aes3_cell.proofs.Growing.{grew-is, front-is, front-more}
use Rattle.aes3_cell.proofs.Writing.{ok-always, wrote-behind, wrote-is}
use Rattle.aes3_frame.specs.Blocks.{block_len}
use Rattle.aes3_lock.specs.Following.{report_in}
use Rattle.aes3_lock.specs.Reports.{wholes}
use Rattle.aes3_lock_gaps.specs.Gaps.{accounted, behind_report, full_count, full_gaps, is_lost}
use Rattle.aes3_lock_gaps.proofs.GapLemmas.{lost-full}
use Rattle.aes3_lock_runs.proofs.Listening.{told-none, told-one}
use Rattle.aes3_watch.specs.Accounting.{accounting}
use Rattle.aes3_watch.specs.GapLines.{account_lines}
use Rattle.aes3_watch.proofs.Accounts.{lost-room, more-wholes, near-new, pass-accounts, pass-lines, reached-is}
use Rattle.aes3_watch.proofs.Accounts.{report-lines, take-accounts, take-lines}
use Rattle.aes3_watch.proofs.EventWrites.{if-both, wrote-failed}
use Rattle.aes3_watch.proofs.GapWrites.{due-full}
use Rattle.aes3_watch.proofs.ledger.LedgerListener.hear.Goals as goal

pub tell-requires-clause-few : goal.tell-requires-clause-few
tell-requires-clause-few g c =
    let h = c.requires.following in
    let n = c.args.lock.now.seen in
    let p = near-new h.0 h.1 (report_in c.args.lock.now c.in-Some.ending) n (told-one c.in-Some.is h.2) h.2.follows.seen in
    omega (arith, lost-room h.0 h.1 n h.3.accounts h.2.follows.seen c.requires.few, p, c.requires.few)

pub tell-requires-clause-near : goal.tell-requires-clause-near
tell-requires-clause-near g c =
    let h = c.requires.following in
    let p = near-new h.0 h.1 (report_in c.args.lock.now c.in-Some.ending) c.args.lock.now.seen
    (told-one c.in-Some.is h.2) h.2.follows.seen in
    omega (arith, p, c.requires.few)

pub tell-requires-clause-found : goal.tell-requires-clause-found
tell-requires-clause-found g c = let h = c.requires.following in h.3.found_is ∙ ap (ltb 0) (sym h.2.blocks)

pub tell_gaps-requires-clause-few : goal.tell_gaps-requires-clause-few
tell_gaps-requires-clause-few g c =
    let h = c.requires.following in
    let n = c.args.lock.now.seen in
    let l = lost-room h.0 h.1 n h.3.accounts h.2.follows.seen c.requires.few in
    let p = near-new h.0 h.1 (report_in c.args.lock.now c.in-Some.ending) n (told-one c.in-Some.is h.2) h.2.follows.seen in
    omega (arith, l, p, c.requires.few, c.in_ok-tell-in-Some.ensures.few, c.passed.ensures.to, c.seen.ensures)

pub tell_gaps-requires-in-None-clause-few : goal.tell_gaps-requires-in-None-clause-few
tell_gaps-requires-in-None-clause-few g c =
    let h = c.requires.following in
    let l = lost-room h.0 h.1 c.args.lock.now.seen h.3.accounts h.2.follows.seen c.requires.few in
    omega (arith, l, c.requires.few, c.passed-in-None.ensures.to, c.seen-in-None.ensures)

pub returns-in_err-tell-in-Some-clause-wrote : goal.returns-in_err-tell-in-Some-clause-wrote
returns-in_err-tell-in-Some-clause-wrote g c =
    let k = c.args.self.now in
    let x = report_in c.args.lock.now c.in-Some.ending in
    let p = err_from_is_err_and c.from_residual.result c.from_residual.ensures.1 in
    let w = c.in_err-tell-in-Some.ensures.wrote in
    rw p.1 (λ d e h f.
    let r = behind_report (accounted d) x in
    let s = length (d ++ e) - block_len in wrote-failed w.err.0
    (front-is (take-lines k.lines r s d e x refl refl (told-one c.in-Some.is h))
    (front-more (front-is (report-lines k.lines c.args.blocks k.account.place d x h.blocks f.accounts.place_is)
    w.err.1) (account_lines k.lines (full_gaps r (full_count r s))))))

pub returns-in_ok-tell-in-Some-clause-unchanged : goal.returns-in_ok-tell-in-Some-clause-unchanged
returns-in_ok-tell-in-Some-clause-unchanged g c =
    ok-always c.tell_gaps.result (ap accounting (c.tell_gaps.ensures.lines ∙ c.tell.ensures.lines))

pub returns-in_ok-tell-in-Some-clause-next : goal.returns-in_ok-tell-in-Some-clause-next
returns-in_ok-tell-in-Some-clause-next g c =
    let m = c.tell.new.self in
    let r = c.tell_gaps.new.self in
    let x = report_in c.args.lock.now c.in-Some.ending in
    let u = c.passed.result in
    let t = c.in_ok-tell-in-Some.ensures in
    let short = c.passed.ensures.short in
    if-both c.tell_gaps.result (λ place lost d e h f.
    let q = told-one c.in-Some.is h in record {
      accounts = take-accounts m.account.place m.lost r.account.place r.lost u.to d e x f.accounts q
          (c.passed.ensures.to ∙ ap (λ n. n - block_len) (c.seen.ensures ∙ h.follows.seen)) t.place t.lost h.blocks
          (place short)
          (lost ∙ ap (λ z. m.lost + length (filter is_lost z)) (due-full m.account.place u.to u refl short)
          ∙ ap (λ z. m.lost + z) (lost-full m.account.place (full_count m.account.place u.to)));
      found_is = c.tell_gaps.ensures.found ∙ t.found ∙ ap (ltb 0) (more-wholes d e x h.blocks q);
    }) c.tell_gaps.ensures.place c.tell_gaps.ensures.lost

pub returns-in_ok-tell-in-Some-clause-wrote : goal.returns-in_ok-tell-in-Some-clause-wrote
returns-in_ok-tell-in-Some-clause-wrote g c =
    let k = c.args.self.now in
    let m = c.tell.new.self in
    let x = report_in c.args.lock.now c.in-Some.ending in
    let u = c.passed.result in
    let t = c.in_ok-tell-in-Some.ensures in
    λ d e h f.
    wrote-is (take-lines k.lines m.account.place u.to d e x (reached-is m.account.place d x f.accounts t.place)
    (c.passed.ensures.to ∙ ap (λ n. n - block_len) (c.seen.ensures ∙ h.follows.seen)) (told-one c.in-Some.is h))
    (wrote-behind c.tell_gaps.result t.wrote.no_failure
    (grew-is (report-lines k.lines c.args.blocks k.account.place d x h.blocks f.accounts.place_is) t.wrote.grew)
    (wrote-is (ap (account_lines k.lines) (due-full m.account.place u.to u refl c.passed.ensures.short))
    (rw c.tell.ensures.lines at c.tell_gaps.ensures.wrote)))

pub returns-in-None-clause-unchanged : goal.returns-in-None-clause-unchanged
returns-in-None-clause-unchanged g c = ok-always c.tell_gaps-in-None.result (ap accounting c.tell_gaps-in-None.ensures.lines)

pub returns-in-None-clause-next : goal.returns-in-None-clause-next
returns-in-None-clause-next g c =
    let k = c.args.self.now in
    let m = c.tell_gaps-in-None.new.self in
    let u = c.passed-in-None.result in
    let short = c.passed-in-None.ensures.short in
    if-both c.tell_gaps-in-None.result (λ place lost d e h f.
    let q = told-none c.in-None.is h in record {
      accounts = pass-accounts m.account.place m.lost u.to d e f.accounts q
          (c.passed-in-None.ensures.to ∙ ap (λ n. n - block_len) (c.seen-in-None.ensures ∙ h.follows.seen)) (place short)
          (lost ∙ ap (λ z. k.lost + length (filter is_lost z)) (due-full k.account.place u.to u refl short)
          ∙ ap (λ z. k.lost + z) (lost-full k.account.place (full_count k.account.place u.to)));
      found_is = c.tell_gaps-in-None.ensures.found ∙ f.found_is ∙ ap (λ r. ltb 0 (length (wholes r))) (sym q);
    }) c.tell_gaps-in-None.ensures.place c.tell_gaps-in-None.ensures.lost

pub returns-in-None-clause-wrote : goal.returns-in-None-clause-wrote
returns-in-None-clause-wrote g c =
    let k = c.args.self.now in
    let u = c.passed-in-None.result in
    λ d e h f.
    wrote-is (ap (account_lines k.lines) (due-full k.account.place u.to u refl c.passed-in-None.ensures.short)
    ∙ pass-lines k.lines k.account.place u.to d e f.accounts.place_is
    (c.passed-in-None.ensures.to ∙ ap (λ n. n - block_len) (c.seen-in-None.ensures ∙ h.follows.seen))
    (told-none c.in-None.is h)) c.tell_gaps-in-None.ensures.wrote
