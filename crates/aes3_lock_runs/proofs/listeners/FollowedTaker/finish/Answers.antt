use Rattle.std.proofs.Common.{arith, sym, subst}
use Rattle.std.proofs.lemmas.Result.{err_from_is_err_and}
use Rattle.aes3_lock.specs.Reports.{decided}
use Rattle.aes3_lock.specs.Tallies.{IsTallyOf}
use Rattle.aes3_lock.proofs.Tallies.{few-decided}
use Rattle.aes3_lock_runs.proofs.Listening.{heard-end}
use Rattle.aes3_lock_runs.proofs.listeners.FollowedTaker.finish.Goals as goal

pub end-requires-clause-few : goal.end-requires-clause-few
end-requires-clause-few g c =
    let h = c.requires.following in
    let s = h.2.0.seen in
    omega (arith, s, h.1)

pub end-requires-clause-following : goal.end-requires-clause-following
end-requires-clause-following g c =
    let h = c.requires.following in
    let e = c.end-ending.ensures in
    (h.0, heard-end c.args.self.now.tally e.report e.held h.0 h.2.0 h.2.1, h.2.2)

pub count-requires : goal.count-requires
count-requires g c =
    let h = c.requires.following in
    let f = few-decided h.0 in
    (decided h.0, omega (arith, h.1, f), h.2.1)

pub returns-in_err-end-clause-one_failure : goal.returns-in_err-end-clause-one_failure
returns-in_err-end-clause-one_failure g c =
    let h = c.requires.following in
    let e = c.end-ending.ensures in
    let error = err_from_is_err_and c.from_residual.result c.from_residual.ensures.1 in
    rw error.1 ((c.in_err-end.ensures.wrote h.0
    (heard-end c.args.self.now.tally e.report e.held h.0 h.2.0 h.2.1) h.2.2).err.0)

pub returns-in_err-end-clause-err_grew : goal.returns-in_err-end-clause-err_grew
returns-in_err-end-clause-err_grew g c =
    let e = c.end-ending.ensures in
    let error = err_from_is_err_and c.from_residual.result c.from_residual.ensures.1 in
    rw error.1 (λ d h. (c.in_err-end.ensures.wrote d
    (heard-end c.args.self.now.tally e.report e.held d h.0 h.1) h.2).err.1)

pub returns-clause-done : goal.returns-clause-done
returns-clause-done g c =
    let e = c.end-ending.ensures in
    λ d h. (
      subst (IsTallyOf c.count.new.tally) (sym (e.report d h.0)) (c.count.ensures (decided d) h.1),
      c.in_ok-end.ensures.done d (heard-end c.args.self.now.tally e.report e.held d h.0 h.1) h.2,
    )

pub returns-clause-grew : goal.returns-clause-grew
returns-clause-grew g c =
    let e = c.end-ending.ensures in
    λ d h. (c.in_ok-end.ensures.wrote d (heard-end c.args.self.now.tally e.report e.held d h.0 h.1) h.2).grew

pub returns-clause-no_failure : goal.returns-clause-no_failure
returns-clause-no_failure g c =
    let h = c.requires.following in
    let e = c.end-ending.ensures in
    (c.in_ok-end.ensures.wrote h.0 (heard-end c.args.self.now.tally e.report e.held h.0 h.2.0 h.2.1) h.2.2).no_failure
