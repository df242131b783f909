use Rattle.std.proofs.Common.{◌++◌, ap, ap₂, ◌∙◌, arith}
use Rattle.aes3_cell.proofs.Writing.{ok-always, wrote-is}
use Rattle.aes3_lock.specs.Following.{report_in}
use Rattle.aes3_lock_runs.proofs.Listening.{told-none, told-one}
use Rattle.aes3_watch.specs.Watching.{event_lines, watching}
use Rattle.aes3_watch.proofs.Accounts.{less, near-new}
use Rattle.aes3_watch.proofs.EventWrites.{put-one, put-two}
use Rattle.aes3_watch.proofs.WatchedCells.{loss-room, pass-lines, pass-watches, same-watches, take-lines, take-watches}
use Rattle.aes3_watch.proofs.watching.WatcherListener.hear.Goals as goal

pub take_report-requires-clause-few : goal.take_report-requires-clause-few
take_report-requires-clause-few g c =
    let h = c.requires.following in
    let l = loss-room h.0 h.1 c.args.lock.now.seen h.3 h.2.follows.seen c.requires.few in
    omega (arith, l)

pub take_report-requires-clause-near : goal.take_report-requires-clause-near
take_report-requires-clause-near g c =
    let h = c.requires.following in
    let n = near-new h.0 h.1 (report_in c.args.lock.now c.in-Some.ending) c.args.lock.now.seen
    (told-one c.in-Some.is h.2) h.2.follows.seen in
    let s = c.requires.few in
    omega (arith, n, s)

pub take_report-requires-clause-kept : goal.take_report-requires-clause-kept
take_report-requires-clause-kept g c = c.requires.following.3.kept

pub go_on-requires-clause-few : goal.go_on-requires-clause-few
go_on-requires-clause-few g c =
    let h = c.requires.following in
    let l = loss-room h.0 h.1 c.args.lock.now.seen h.3 h.2.follows.seen c.requires.few in
    let f = c.take_report.ensures.few in
    omega (arith, l, f)

pub go_on-requires-in-None-clause-few : goal.go_on-requires-in-None-clause-few
go_on-requires-in-None-clause-few g c =
    let h = c.requires.following in
    let l = loss-room h.0 h.1 c.args.lock.now.seen h.3 h.2.follows.seen c.requires.few in
    omega (arith, l)

pub returns-in-Some-clause-unchanged : goal.returns-in-Some-clause-unchanged
returns-in-Some-clause-unchanged g c =
    ok-always c.put_events.result (ap watching (c.go_on.ensures.style ∙ c.take_report.ensures.style))

pub returns-in-Some-clause-next : goal.returns-in-Some-clause-next
returns-in-Some-clause-next g c =
    let m = c.take_report.new.self in
    let r = c.go_on.new.self in
    let x = report_in c.args.lock.now c.in-Some.ending in
    let s = c.saturating_sub.result in
    ok-always c.put_events.result (λ d e h f.
    same-watches r.state m.lasts r.lasts (d ++ e) c.go_on.ensures.lasts
    (take-watches m.state r.state s d e x f (told-one c.in-Some.is h)
    (less s c.seen.result _ (omega arith) (c.seen.ensures ∙ h.follows.seen))
    c.take_report.ensures.state c.take_report.ensures.kept c.go_on.ensures.state))

pub returns-in-Some-clause-wrote : goal.returns-in-Some-clause-wrote
returns-in-Some-clause-wrote g c =
    let k = c.args.self.now in
    let m = c.take_report.new.self in
    let x = report_in c.args.lock.now c.in-Some.ending in
    let s = c.saturating_sub.result in
    let told = put-two _ _ c.deref.ensures.0 c.go_on.ensures.events c.take_report.ensures.events c.new-events.ensures in
    λ d e h f.
    wrote-is (ap₂ event_lines (c.go_on.ensures.style ∙ c.take_report.ensures.style) told
    ∙ take-lines k.style k.state m.state s d e x f.state_is c.take_report.ensures.state
    (less s c.seen.result _ (omega arith) (c.seen.ensures ∙ h.follows.seen)) (told-one c.in-Some.is h))
    c.put_events.ensures

pub returns-in-None-clause-unchanged : goal.returns-in-None-clause-unchanged
returns-in-None-clause-unchanged g c = ok-always c.put_events-in-None.result (ap watching c.go_on-in-None.ensures.style)

pub returns-in-None-clause-next : goal.returns-in-None-clause-next
returns-in-None-clause-next g c =
    let k = c.args.self.now in
    let m = c.go_on-in-None.new.self in
    let s = c.saturating_sub-in-None.result in
    ok-always c.put_events-in-None.result (λ d e h f.
    same-watches m.state k.lasts m.lasts (d ++ e) c.go_on-in-None.ensures.lasts
    (pass-watches m.state s d e f (told-none c.in-None.is h)
    (less s c.seen-in-None.result _ (omega arith) (c.seen-in-None.ensures ∙ h.follows.seen))
    c.go_on-in-None.ensures.state))

pub returns-in-None-clause-wrote : goal.returns-in-None-clause-wrote
returns-in-None-clause-wrote g c =
    let k = c.args.self.now in
    let s = c.saturating_sub-in-None.result in
    let told = put-one _ c.deref-in-None.ensures.0 c.go_on-in-None.ensures.events c.new-events.ensures in
    λ d e h f.
    wrote-is (ap₂ event_lines c.go_on-in-None.ensures.style told
    ∙ pass-lines k.style k.state s d e f.state_is
    (less s c.seen-in-None.result _ (omega arith) (c.seen-in-None.ensures ∙ h.follows.seen))
    (told-none c.in-None.is h)) c.put_events-in-None.ensures
