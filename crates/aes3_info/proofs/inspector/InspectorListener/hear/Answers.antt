use Rattle.std.proofs.Common.{refl, sym, arith}
use Rattle.aes3_cell.proofs.Growing.{grew-is, grew-none}
use Rattle.aes3_lock.specs.Following.{report_in}
use Rattle.aes3_lock.specs.Reports.{decided}
use Rattle.aes3_lock_runs.proofs.Listening.{told-none, told-one}
use Rattle.aes3_watch.proofs.Accounts.{near-new}
use Rattle.aes3_info.proofs.Inspecting.{none-behind}
use Rattle.aes3_info.proofs.inspector.InspectorListener.hear.Goals as goal

pub count-requires : goal.count-requires
count-requires g c =
    let h = c.requires.following in
    let n = near-new h.0 h.1 (report_in c.args.lock.now c.in-Some.ending) c.args.lock.now.seen
    (told-one c.in-Some.is h.2) h.2.follows.seen in
    let s = c.requires.few in
    record { near = omega (arith, n, s) }

pub returns-in-Some-clause-next : goal.returns-in-Some-clause-next
returns-in-Some-clause-next g c = λ d e h f. rw (told-one c.in-Some.is h) (c.count.ensures.next (decided d) f)

pub returns-in-Some-clause-wrote : goal.returns-in-Some-clause-wrote
returns-in-Some-clause-wrote g c = λ d e h f. record {
  grew = grew-is (sym (none-behind c.args.self.now.notation d e)) (grew-none refl);
  no_failure = refl;
  err = tt;
}

pub returns-in-None-clause-next : goal.returns-in-None-clause-next
returns-in-None-clause-next g c = λ d e h f. rw (told-none c.in-None.is h) f

pub returns-in-None-clause-wrote : goal.returns-in-None-clause-wrote
returns-in-None-clause-wrote g c = λ d e h f. record {
  grew = grew-is (sym (none-behind c.args.self.now.notation d e)) (grew-none refl);
  no_failure = refl;
  err = tt;
}
