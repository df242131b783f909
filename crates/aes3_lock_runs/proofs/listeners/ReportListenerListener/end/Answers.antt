use Rattle.std.proofs.Common.{◌++◌, ◌∷◌, [], ap, sym, subst, ◌∙◌, append-nil}
use Rattle.std.proofs.lemmas.Result.{err_from_is_err_and}
use Rattle.aes3_cell.proofs.Growing.{front-is, front-more}
use Rattle.aes3_cell.proofs.Writing.{ok-always, wrote-behind, wrote-is}
use Rattle.aes3_lock.specs.Following.{report_in}
use Rattle.aes3_lock.specs.Reports.{decided}
use Rattle.aes3_lock_runs.proofs.Listening.{end-none, end-one}
use Rattle.aes3_lock_runs.proofs.Reports.{ends-none, ends-one}
use Rattle.aes3_lock_runs.proofs.listeners.ReportListenerListener.end.Goals as goal

pub returns-in_ok-tell-in-Some-clause-done : goal.returns-in_ok-tell-in-Some-clause-done
returns-in_ok-tell-in-Some-clause-done g c =
    ok-always c.finish.result (λ d h f.
    subst (g.R.Reporter.follows c.tell.new.self) (sym (end-one c.in-Some.is h))
    (c.in_ok-tell-in-Some.ensures.next (decided d) h.blocks f))

pub returns-in_ok-tell-in-Some-clause-wrote : goal.returns-in_ok-tell-in-Some-clause-wrote
returns-in_ok-tell-in-Some-clause-wrote g c =
    let w = g.R.Reporter.writes c.args.self.now.reporter in
    let x = report_in c.args.lock.now c.in-Some.ending in
    let t = c.in_ok-tell-in-Some.ensures in
    λ d h f.
    let q = t.wrote (decided d) h.blocks f in
    wrote-is (ap (λ v. w.adds (decided d) x ++ v.ends (decided d ++ x ∷ [])) t.unchanged
    ∙ sym (ends-one w d x (end-one c.in-Some.is h)))
    (wrote-behind c.finish.result q.no_failure q.grew
    (c.finish.ensures (decided d ++ x ∷ []) (t.next (decided d) h.blocks f)))

pub returns-in_err-tell-in-Some-clause-wrote : goal.returns-in_err-tell-in-Some-clause-wrote
returns-in_err-tell-in-Some-clause-wrote g c =
    let w = g.R.Reporter.writes c.args.self.now.reporter in
    let x = report_in c.args.lock.now c.in-Some.ending in
    let error = err_from_is_err_and c.from_residual.result c.from_residual.ensures.1 in
    rw error.1 (λ d h f.
    let q = c.in_err-tell-in-Some.ensures.wrote (decided d) h.blocks f in record {
      grew = tt;
      no_failure = tt;
      err = (
        q.err.0,
        front-is (sym (ends-one w d x (end-one c.in-Some.is h))) (front-more q.err.1 _),
      );
    })

pub returns-in-None-clause-done : goal.returns-in-None-clause-done
returns-in-None-clause-done g c =
    ok-always c.finish-in-None.result (λ d h f.
    subst (g.R.Reporter.follows c.args.self.now.reporter)
    (sym (end-none c.in-None.is h ∙ append-nil (decided d))) f)

pub returns-in-None-clause-wrote : goal.returns-in-None-clause-wrote
returns-in-None-clause-wrote g c =
    λ d h f.
    wrote-is (sym (ends-none (g.R.Reporter.writes c.args.self.now.reporter) d
    (end-none c.in-None.is h))) (c.finish-in-None.ensures (decided d) f)
