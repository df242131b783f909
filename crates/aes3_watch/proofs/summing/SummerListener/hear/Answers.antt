use Rattle.std.proofs.Common.{◌++◌, refl, ap, ap₂, ◌∙◌, arith}
use Rattle.std.proofs.lemmas.Result.{err_from_is_err_and, IfOk-weaker}
use Rattle.aes3_cell.proofs.Growing.{front-is, front-more}
use Rattle.aes3_cell.proofs.Writing.{ok-always, wrote-behind, wrote-is}
use Rattle.aes3_lock.specs.Following.{report_in}
use Rattle.aes3_lock_runs.proofs.Listening.{told-none, told-one}
use Rattle.aes3_watch.specs.Sums.{go_to, next_sum, notice_lines, with_period, summing, told_to}
use Rattle.aes3_watch.proofs.Accounts.{less, near-new}
use Rattle.aes3_watch.proofs.WatchedCells.{loss-room}
use Rattle.aes3_watch.proofs.SumWrites.{passed-lines, passed-sums, same-sums, taken-lines, taken-sums}
use Rattle.aes3_watch.proofs.EventWrites.{wrote-failed}
use Rattle.aes3_watch.proofs.summing.SummerListener.hear.Goals as goal

pub take_report-requires-clause-few : goal.take_report-requires-clause-few
take_report-requires-clause-few g c =
    let h = c.requires.following in
    omega (arith, loss-room h.0 h.1 c.args.lock.now.seen h.3.watches h.2.follows.seen c.requires.few)

pub take_report-requires-clause-some : goal.take_report-requires-clause-some
take_report-requires-clause-some g c = c.requires.following.3.some

pub take_report-requires-clause-kept : goal.take_report-requires-clause-kept
take_report-requires-clause-kept g c = c.requires.following.3.watches.kept

pub take_report-requires-clause-near : goal.take_report-requires-clause-near
take_report-requires-clause-near g c =
    let h = c.requires.following in
    let n = near-new h.0 h.1 (report_in c.args.lock.now c.in-Some.ending) c.args.lock.now.seen
    (told-one c.in-Some.is h.2) h.2.follows.seen in
    omega (arith, n, c.requires.few)

pub go_to-requires-clause-few : goal.go_to-requires-clause-few
go_to-requires-clause-few g c =
    let h = c.requires.following in
    let l = loss-room h.0 h.1 c.args.lock.now.seen h.3.watches h.2.follows.seen c.requires.few in
    omega (arith, l, c.in_ok-take_report-in-Some.ensures.few)

pub go_to-requires-clause-some : goal.go_to-requires-clause-some
go_to-requires-clause-some g c =
    omega (arith, c.requires.following.3.some, c.take_report.ensures.every)

pub go_to-requires-in-None-clause-few : goal.go_to-requires-in-None-clause-few
go_to-requires-in-None-clause-few g c =
    let h = c.requires.following in
    omega (arith, loss-room h.0 h.1 c.args.lock.now.seen h.3.watches h.2.follows.seen c.requires.few)

pub go_to-requires-in-None-clause-some : goal.go_to-requires-in-None-clause-some
go_to-requires-in-None-clause-some g c = c.requires.following.3.some

pub returns-in_err-take_report-in-Some-clause-wrote : goal.returns-in_err-take_report-in-Some-clause-wrote
returns-in_err-take_report-in-Some-clause-wrote g c =
    let k = c.args.self.now in
    let u = with_period k.watcher.state k.period in
    let x = report_in c.args.lock.now c.in-Some.ending in
    let p = err_from_is_err_and c.from_residual.result c.from_residual.ensures.1 in
    let w = c.in_err-take_report-in-Some.ensures.wrote in
    rw p.1 (λ d e h f. wrote-failed w.err.0
    (front-is (taken-lines k.watcher.style k.every u (next_sum k.every u x) _ d e x f.some f.state_is refl refl
    (told-one c.in-Some.is h)) (front-more w.err.1 _)))

pub returns-in_ok-take_report-in-Some-clause-unchanged : goal.returns-in_ok-take_report-in-Some-clause-unchanged
returns-in_ok-take_report-in-Some-clause-unchanged g c =
    ok-always c.go_to.result (ap₂ summing (c.go_to.ensures.style ∙ c.take_report.ensures.style)
    (c.go_to.ensures.every ∙ c.take_report.ensures.every))

pub returns-in_ok-take_report-in-Some-clause-next : goal.returns-in_ok-take_report-in-Some-clause-next
returns-in_ok-take_report-in-Some-clause-next g c =
    let k = c.args.self.now in
    let m = c.take_report.new.self in
    let r = c.go_to.new.self in
    let v = with_period m.watcher.state m.period in
    let w = with_period r.watcher.state r.period in
    let x = report_in c.args.lock.now c.in-Some.ending in
    let s = c.saturating_sub.result in
    let t = c.in_ok-take_report-in-Some.ensures in
    IfOk-weaker c.go_to.result _ _ (λ z state d e h f.
    same-sums k.every r.every w m.watcher.lasts r.watcher.lasts (d ++ e)
    (c.go_to.ensures.every ∙ c.take_report.ensures.every) c.go_to.ensures.lasts
    (taken-sums v w s d e x f (told-one c.in-Some.is h)
    (less s c.seen.result _ (omega arith) (c.seen.ensures ∙ h.follows.seen)) t.state t.kept
    (state ∙ ap (λ z. go_to z v s) c.take_report.ensures.every))) c.go_to.ensures.state

pub returns-in_ok-take_report-in-Some-clause-wrote : goal.returns-in_ok-take_report-in-Some-clause-wrote
returns-in_ok-take_report-in-Some-clause-wrote g c =
    let k = c.args.self.now in
    let m = c.take_report.new.self in
    let u = with_period k.watcher.state k.period in
    let v = with_period m.watcher.state m.period in
    let x = report_in c.args.lock.now c.in-Some.ending in
    let s = c.saturating_sub.result in
    let t = c.in_ok-take_report-in-Some.ensures in
    λ d e h f.
    wrote-is (taken-lines k.watcher.style k.every u v s d e x f.some f.state_is t.state
    (less s c.seen.result _ (omega arith) (c.seen.ensures ∙ h.follows.seen)) (told-one c.in-Some.is h))
    (wrote-behind c.go_to.result t.wrote.no_failure t.wrote.grew
    (wrote-is (ap₂ (λ y z. notice_lines y (told_to z v s)) c.take_report.ensures.style c.take_report.ensures.every)
    c.go_to.ensures.wrote))

pub returns-in-None-clause-unchanged : goal.returns-in-None-clause-unchanged
returns-in-None-clause-unchanged g c =
    ok-always c.go_to-in-None.result (ap₂ summing c.go_to-in-None.ensures.style c.go_to-in-None.ensures.every)

pub returns-in-None-clause-next : goal.returns-in-None-clause-next
returns-in-None-clause-next g c =
    let k = c.args.self.now in
    let m = c.go_to-in-None.new.self in
    let v = with_period m.watcher.state m.period in
    let s = c.saturating_sub-in-None.result in
    IfOk-weaker c.go_to-in-None.result _ _ (λ z state d e h f.
    same-sums k.every m.every v k.watcher.lasts m.watcher.lasts (d ++ e) c.go_to-in-None.ensures.every
    c.go_to-in-None.ensures.lasts
    (passed-sums v s d e f (told-none c.in-None.is h)
    (less s c.seen-in-None.result _ (omega arith) (c.seen-in-None.ensures ∙ h.follows.seen)) state))
    c.go_to-in-None.ensures.state

pub returns-in-None-clause-wrote : goal.returns-in-None-clause-wrote
returns-in-None-clause-wrote g c =
    let k = c.args.self.now in
    let s = c.saturating_sub-in-None.result in
    λ d e h f.
    wrote-is (passed-lines k.watcher.style k.every (with_period k.watcher.state k.period) s d e f.some
    f.state_is (less s c.seen-in-None.result _ (omega arith) (c.seen-in-None.ensures ∙ h.follows.seen))
    (told-none c.in-None.is h)) c.go_to-in-None.ensures.wrote
