use Rattle.std.proofs.Common.{[], length, append-nil, refl, sym, ap, ap₂, ◌∙◌, arith}
use Rattle.std.proofs.lemmas.Result.{err_from_is_err_and, IfOk-weaker}
use Rattle.aes3_cell.proofs.Growing.{front-is, front-more}
use Rattle.aes3_cell.proofs.Writing.{wrote-behind, wrote-is}
use Rattle.aes3_lock.specs.Following.{report_in}
use Rattle.aes3_lock_runs.proofs.Listening.{end-none, end-one}
use Rattle.aes3_watch.specs.Sums.{all_told, next_sum, notice_lines, with_period}
use Rattle.aes3_watch.proofs.Accounts.{near-last}
use Rattle.aes3_watch.proofs.Sums.{next-at}
use Rattle.aes3_watch.proofs.SumWrites.{closed-lines, closed_with-lines}
use Rattle.aes3_watch.proofs.WatchedCells.{close-ended, close_with-ended, loss-room}
use Rattle.aes3_watch.proofs.EventWrites.{wrote-failed}
use Rattle.aes3_watch.proofs.summing.SummerListener.end.Goals as goal

pub take_report-requires-clause-few : goal.take_report-requires-clause-few
take_report-requires-clause-few g c =
    let h = c.requires.following in
    let l = loss-room h.0 [] c.args.lock.now.seen h.2.watches (h.1.follows.seen ∙ ap length (sym (append-nil h.0)))
    c.requires.few in
    omega (arith, l)

pub take_report-requires-clause-some : goal.take_report-requires-clause-some
take_report-requires-clause-some g c = c.requires.following.2.some

pub take_report-requires-clause-kept : goal.take_report-requires-clause-kept
take_report-requires-clause-kept g c = c.requires.following.2.watches.kept

pub take_report-requires-clause-near : goal.take_report-requires-clause-near
take_report-requires-clause-near g c =
    let h = c.requires.following in
    let n = near-last h.0 (report_in c.args.lock.now c.in-Some.ending) c.args.lock.now.seen (end-one c.in-Some.is h.1)
    h.1.follows.seen in
    omega (arith, n, c.requires.few)

pub go_to_end-requires-clause-few : goal.go_to_end-requires-clause-few
go_to_end-requires-clause-few g c =
    let h = c.requires.following in
    let l = loss-room h.0 [] c.args.lock.now.seen h.2.watches (h.1.follows.seen ∙ ap length (sym (append-nil h.0)))
    c.requires.few in
    omega (arith, l, c.in_ok-take_report-in-Some.ensures.few)

pub go_to_end-requires-clause-some : goal.go_to_end-requires-clause-some
go_to_end-requires-clause-some g c =
    omega (arith, c.requires.following.2.some, c.take_report.ensures.every)

pub go_to_end-requires-in-None-clause-few : goal.go_to_end-requires-in-None-clause-few
go_to_end-requires-in-None-clause-few g c =
    let h = c.requires.following in
    let l = loss-room h.0 [] c.args.lock.now.seen h.2.watches (h.1.follows.seen ∙ ap length (sym (append-nil h.0)))
    c.requires.few in
    omega (arith, l)

pub go_to_end-requires-in-None-clause-some : goal.go_to_end-requires-in-None-clause-some
go_to_end-requires-in-None-clause-some g c = c.requires.following.2.some

pub returns-in_err-take_report-in-Some-clause-wrote : goal.returns-in_err-take_report-in-Some-clause-wrote
returns-in_err-take_report-in-Some-clause-wrote g c =
    let k = c.args.self.now in
    let u = with_period k.watcher.state k.period in
    let x = report_in c.args.lock.now c.in-Some.ending in
    let p = err_from_is_err_and c.from_residual.result c.from_residual.ensures.1 in
    let w = c.in_err-take_report-in-Some.ensures.wrote in
    rw p.1 (λ d h f. wrote-failed w.err.0
    (front-is (closed_with-lines k.watcher.style k.every u (next_sum k.every u x) _ d x f.some f.state_is refl refl
    (end-one c.in-Some.is h)) (front-more w.err.1 _)))

pub returns-in_ok-take_report-in-Some-clause-done : goal.returns-in_ok-take_report-in-Some-clause-done
returns-in_ok-take_report-in-Some-clause-done g c =
    let k = c.args.self.now in
    let m = c.take_report.new.self in
    let r = c.go_to_end.new.self in
    let u = with_period k.watcher.state k.period in
    let v = with_period m.watcher.state m.period in
    let x = report_in c.args.lock.now c.in-Some.ending in
    IfOk-weaker c.go_to_end.result _ _ (λ z state d h f.
    close_with-ended m.watcher.state r.watcher.state c.seen.result d x f.watches (end-one c.in-Some.is h)
    (c.seen.ensures ∙ h.follows.seen) (omega (arith, c.seen.ensures, c.requires.few))
    (next-at k.every u v x f.some c.in_ok-take_report-in-Some.ensures.state) state) c.go_to_end.ensures.state

pub returns-in_ok-take_report-in-Some-clause-wrote : goal.returns-in_ok-take_report-in-Some-clause-wrote
returns-in_ok-take_report-in-Some-clause-wrote g c =
    let k = c.args.self.now in
    let m = c.take_report.new.self in
    let u = with_period k.watcher.state k.period in
    let v = with_period m.watcher.state m.period in
    let x = report_in c.args.lock.now c.in-Some.ending in
    let t = c.in_ok-take_report-in-Some.ensures in
    λ d h f.
    wrote-is (closed_with-lines k.watcher.style k.every u v c.seen.result d x f.some f.state_is t.state
    (c.seen.ensures ∙ h.follows.seen) (end-one c.in-Some.is h))
    (wrote-behind c.go_to_end.result t.wrote.no_failure t.wrote.grew
    (wrote-is (ap₂ (λ y z. notice_lines y (all_told z v c.seen.result)) c.take_report.ensures.style
    c.take_report.ensures.every) c.go_to_end.ensures.wrote))

pub returns-in-None-clause-done : goal.returns-in-None-clause-done
returns-in-None-clause-done g c =
    let m = c.go_to_end-in-None.new.self in
    IfOk-weaker c.go_to_end-in-None.result _ _ (λ z state d h f.
    close-ended m.watcher.state c.seen-in-None.result d f.watches (end-none c.in-None.is h)
    (c.seen-in-None.ensures ∙ h.follows.seen) (omega (arith, c.seen-in-None.ensures, c.requires.few)) state)
    c.go_to_end-in-None.ensures.state

pub returns-in-None-clause-wrote : goal.returns-in-None-clause-wrote
returns-in-None-clause-wrote g c =
    let k = c.args.self.now in
    λ d h f.
    wrote-is (closed-lines k.watcher.style k.every (with_period k.watcher.state k.period)
    c.seen-in-None.result d f.some f.state_is (c.seen-in-None.ensures ∙ h.follows.seen) (end-none c.in-None.is h))
    c.go_to_end-in-None.ensures.wrote
