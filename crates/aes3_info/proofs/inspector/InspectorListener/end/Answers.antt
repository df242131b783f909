use Rattle.std.proofs.Common.{◌++◌, ◌∷◌, ◌∙◌, [], ap, append-nil, arith}
use Rattle.aes3_cell.proofs.Writing.{ok-always, wrote-is}
use Rattle.aes3_lock.specs.Following.{report_in}
use Rattle.aes3_lock.specs.Reports.{decided}
use Rattle.aes3_lock_runs.proofs.Listening.{end-none, end-one}
use Rattle.aes3_watch.proofs.Accounts.{near-last}
use Rattle.aes3_info.specs.Pages.{page}
use Rattle.aes3_info.proofs.Inspecting.{all-facts, end-page}
use Rattle.aes3_info.proofs.inspector.InspectorListener.end.Goals as goal

pub count-requires : goal.count-requires
count-requires g c =
    let h = c.requires.following in
    let n = near-last h.0 (report_in c.args.lock.now c.in-Some.ending) c.args.lock.now.seen (end-one c.in-Some.is h.1)
    h.1.follows.seen in
    let s = c.requires.few in
    record { near = omega (arith, n, s) }

pub returns-in-Some-clause-done : goal.returns-in-Some-clause-done
returns-in-Some-clause-done g c =
    let x = report_in c.args.lock.now c.in-Some.ending in
    ok-always c.put_page.result (λ d h f.
    let b = c.count.ensures.next (decided d) f in
    c.count_rest.ensures.facts (decided d ++ x ∷ []) b
    ∙ all-facts d c.count.new.self.place c.seen.result (decided d ++ x ∷ []) (end-one c.in-Some.is h) b.place_is
    (c.seen.ensures ∙ h.follows.seen))

pub returns-in-Some-clause-wrote : goal.returns-in-Some-clause-wrote
returns-in-Some-clause-wrote g c =
    let x = report_in c.args.lock.now c.in-Some.ending in
    let m = c.count_rest.new.self in
    λ d h f.
    let b = c.count.ensures.next (decided d) f in
    wrote-is (ap (λ v. page v m.facts) (c.count_rest.ensures.notation ∙ c.count.ensures.notation)
    ∙ end-page c.args.self.now.notation m.facts d
    (c.count_rest.ensures.facts (decided d ++ x ∷ []) b
    ∙ all-facts d c.count.new.self.place c.seen.result (decided d ++ x ∷ []) (end-one c.in-Some.is h) b.place_is
    (c.seen.ensures ∙ h.follows.seen))) c.put_page.ensures

pub returns-in-None-clause-done : goal.returns-in-None-clause-done
returns-in-None-clause-done g c =
    ok-always c.put_page-in-None.result (λ d h f.
    c.count_rest-in-None.ensures.facts (decided d) f
    ∙ all-facts d c.args.self.now.place c.seen-in-None.result (decided d)
    (end-none c.in-None.is h ∙ append-nil (decided d)) f.place_is (c.seen-in-None.ensures ∙ h.follows.seen))

pub returns-in-None-clause-wrote : goal.returns-in-None-clause-wrote
returns-in-None-clause-wrote g c =
    let k = c.args.self.now in
    let m = c.count_rest-in-None.new.self in
    λ d h f.
    wrote-is (ap (λ v. page v m.facts) c.count_rest-in-None.ensures.notation
    ∙ end-page k.notation m.facts d
    (c.count_rest-in-None.ensures.facts (decided d) f
    ∙ all-facts d k.place c.seen-in-None.result (decided d) (end-none c.in-None.is h ∙ append-nil (decided d))
    f.place_is (c.seen-in-None.ensures ∙ h.follows.seen))) c.put_page-in-None.ensures
