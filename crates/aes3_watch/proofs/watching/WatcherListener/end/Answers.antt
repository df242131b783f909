use Rattle.std.proofs.Common.{[], length, append-nil, sym, ap, ap₂, ◌∙◌, arith}
use Rattle.aes3_cell.proofs.Writing.{ok-always, wrote-is}
use Rattle.aes3_lock.specs.Following.{report_in}
use Rattle.aes3_lock_runs.proofs.Listening.{end-none, end-one}
use Rattle.aes3_watch.specs.Watching.{event_lines}
use Rattle.aes3_watch.proofs.Accounts.{near-last}
use Rattle.aes3_watch.proofs.EventWrites.{put-one, put-two}
use Rattle.aes3_watch.proofs.WatchedCells.{close-ended, close-lines, close_with-ended, close_with-lines, loss-room}
use Rattle.aes3_watch.proofs.watching.WatcherListener.end.Goals as goal

pub take_report-requires-clause-few : goal.take_report-requires-clause-few
take_report-requires-clause-few g c =
    let h = c.requires.following in
    let l = loss-room h.0 [] c.args.lock.now.seen h.2 (h.1.follows.seen ∙ ap length (sym (append-nil h.0)))
    c.requires.few in
    omega (arith, l)

pub take_report-requires-clause-near : goal.take_report-requires-clause-near
take_report-requires-clause-near g c =
    let h = c.requires.following in
    let n = near-last h.0 (report_in c.args.lock.now c.in-Some.ending) c.args.lock.now.seen (end-one c.in-Some.is h.1)
    h.1.follows.seen in
    let s = c.requires.few in
    omega (arith, n, s)

pub take_report-requires-clause-kept : goal.take_report-requires-clause-kept
take_report-requires-clause-kept g c = c.requires.following.2.kept

pub go_to_end-requires-clause-few : goal.go_to_end-requires-clause-few
go_to_end-requires-clause-few g c =
    let h = c.requires.following in
    let l = loss-room h.0 [] c.args.lock.now.seen h.2 (h.1.follows.seen ∙ ap length (sym (append-nil h.0)))
    c.requires.few in
    let f = c.take_report.ensures.few in
    omega (arith, l, f)

pub go_to_end-requires-in-None-clause-few : goal.go_to_end-requires-in-None-clause-few
go_to_end-requires-in-None-clause-few g c =
    let h = c.requires.following in
    let l = loss-room h.0 [] c.args.lock.now.seen h.2 (h.1.follows.seen ∙ ap length (sym (append-nil h.0)))
    c.requires.few in
    omega (arith, l)

pub returns-in-Some-clause-done : goal.returns-in-Some-clause-done
returns-in-Some-clause-done g c =
    let m = c.take_report.new.self in
    let r = c.go_to_end.new.self in
    let x = report_in c.args.lock.now c.in-Some.ending in
    ok-always c.put_events.result (λ d h f.
    close_with-ended m.state r.state c.seen.result d x f (end-one c.in-Some.is h) (c.seen.ensures ∙ h.follows.seen)
    (omega (arith, c.seen.ensures, c.requires.few)) c.take_report.ensures.state c.go_to_end.ensures.state)

pub returns-in-Some-clause-wrote : goal.returns-in-Some-clause-wrote
returns-in-Some-clause-wrote g c =
    let k = c.args.self.now in
    let m = c.take_report.new.self in
    let x = report_in c.args.lock.now c.in-Some.ending in
    let told = put-two _ _ c.deref.ensures.0 c.go_to_end.ensures.events c.take_report.ensures.events
    c.new-events.ensures in
    λ d h f.
    wrote-is (ap₂ event_lines (c.go_to_end.ensures.style ∙ c.take_report.ensures.style) told
    ∙ close_with-lines k.style k.state m.state c.seen.result d x f.state_is c.take_report.ensures.state
    (c.seen.ensures ∙ h.follows.seen) (end-one c.in-Some.is h)) c.put_events.ensures

pub returns-in-None-clause-done : goal.returns-in-None-clause-done
returns-in-None-clause-done g c =
    let m = c.go_to_end-in-None.new.self in
    ok-always c.put_events-in-None.result (λ d h f.
    close-ended m.state c.seen-in-None.result d f (end-none c.in-None.is h) (c.seen-in-None.ensures ∙ h.follows.seen)
    (omega (arith, c.seen-in-None.ensures, c.requires.few)) c.go_to_end-in-None.ensures.state)

pub returns-in-None-clause-wrote : goal.returns-in-None-clause-wrote
returns-in-None-clause-wrote g c =
    let k = c.args.self.now in
    let told = put-one _ c.deref-in-None.ensures.0 c.go_to_end-in-None.ensures.events c.new-events.ensures in
    λ d h f.
    wrote-is (ap₂ event_lines c.go_to_end-in-None.ensures.style told
    ∙ close-lines k.style k.state c.seen-in-None.result d f.state_is (c.seen-in-None.ensures ∙ h.follows.seen)
    (end-none c.in-None.is h)) c.put_events-in-None.ensures
