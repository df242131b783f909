use Rattle.std.proofs.Common.{refl, sym, subst}
use Rattle.std.proofs.lemmas.Result.{IfOk-weaker}
use Rattle.aes3_cell.proofs.Growing.{grew-is, grew-none}
use Rattle.aes3_cell.proofs.Writing.{wrote-is}
use Rattle.aes3_lock.specs.Following.{report_in}
use Rattle.aes3_lock.specs.Reports.{decided}
use Rattle.aes3_lock_runs.proofs.Listening.{told-none, told-one}
use Rattle.aes3_lock_runs.proofs.Reports.{adds-nothing, adds-report, same-reporting}
use Rattle.aes3_lock_runs.proofs.listeners.ReportListenerListener.hear.Goals as goal

pub returns-in-Some-clause-unchanged : goal.returns-in-Some-clause-unchanged
returns-in-Some-clause-unchanged g c = IfOk-weaker c.tell.result _ _ (λ u e. same-reporting e) c.tell.ensures.unchanged

pub returns-in-Some-clause-next : goal.returns-in-Some-clause-next
returns-in-Some-clause-next g c =
    IfOk-weaker c.tell.result _ _ (λ u next d e h f.
    subst (g.R.Reporter.follows c.tell.new.self) (sym (told-one c.in-Some.is h))
    (next (decided d) h.blocks f)) c.tell.ensures.next

pub returns-in-Some-clause-wrote : goal.returns-in-Some-clause-wrote
returns-in-Some-clause-wrote g c =
    λ d e h f.
    wrote-is (sym (adds-report (g.R.Reporter.writes c.args.self.now.reporter) d e
    (report_in c.args.lock.now c.in-Some.ending) (told-one c.in-Some.is h)))
    (c.tell.ensures.wrote (decided d) h.blocks f)

pub returns-in-None-clause-next : goal.returns-in-None-clause-next
returns-in-None-clause-next g c =
    λ d e h f.
    subst (g.R.Reporter.follows c.args.self.now.reporter)
    (sym (told-none c.in-None.is h)) f

pub returns-in-None-clause-wrote : goal.returns-in-None-clause-wrote
returns-in-None-clause-wrote g c =
    λ d e h f. record {
      grew = grew-is (sym (adds-nothing (g.R.Reporter.writes c.args.self.now.reporter) d e
          (told-none c.in-None.is h))) (grew-none refl);
      no_failure = refl;
      err = tt;
    }
