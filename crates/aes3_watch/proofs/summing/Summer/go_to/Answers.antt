use Rattle.std.proofs.Common.{◌+◌, refl, ap, ◌∙◌}
use Rattle.std.proofs.lemmas.Result.{err_from_is_err_and}
use Rattle.aes3_cell.proofs.Growing.{grew-is, grew-join, front-is, front-join, front-more}
use Rattle.aes3_watch.specs.Watching.{event_lines, loss_events}
use Rattle.aes3_watch.specs.Sums.{ends_before, periods, with_period}
use Rattle.aes3_watch.proofs.Sums.{go-is, go-lines}
use Rattle.aes3_watch.proofs.EventWrites.{wrote-failed}
use Rattle.aes3_watch.proofs.summing.Summer.go_to.Goals as goal

pub returns-in_err-end_periods-clause-wrote : goal.returns-in_err-end_periods-clause-wrote
returns-in_err-end_periods-clause-wrote g c =
    let k = c.args.self.now in
    let u = with_period k.watcher.state k.period in
    let v = periods k.every (ends_before k.every u c.args.to) u in
    let p = err_from_is_err_and c.from_residual.result c.from_residual.ensures.1 in
    let f = c.in_err-end_periods.ensures.wrote.err in
    rw p.1 (wrote-failed f.0
    (front-is (go-lines k.watcher.style k.every u v c.args.to refl)
    (front-more f.1 (event_lines k.watcher.style (loss_events v.watched c.args.to)))))

pub returns-in_err-go_on-clause-wrote : goal.returns-in_err-go_on-clause-wrote
returns-in_err-go_on-clause-wrote g c =
    let k = c.args.self.now in
    let n = c.end_periods.new.self in
    let u = with_period k.watcher.state k.period in
    let v = with_period n.watcher.state n.period in
    let p = err_from_is_err_and c.from_residual-in_err-go_on.result c.from_residual-in_err-go_on.ensures.1 in
    let f = c.in_err-go_on.ensures.wrote.err in
    rw p.1 (wrote-failed (f.0 ∙ ap (λ m. m + 1) c.in_ok-end_periods.ensures.wrote.no_failure)
    (front-is (go-lines k.watcher.style k.every u v c.args.to c.in_ok-end_periods.ensures.state)
    (front-join c.in_ok-end_periods.ensures.wrote.grew (rw c.end_periods.ensures.style at f.1))))

pub returns-clause-state : goal.returns-clause-state
returns-clause-state g c =
    let k = c.args.self.now in
    let n = c.end_periods.new.self in
    let r = c.go_on.new.self in
    go-is k.every (with_period k.watcher.state k.period)
    (with_period n.watcher.state n.period) (with_period r.watcher.state r.period)
    c.args.to c.in_ok-end_periods.ensures.state c.go_on.ensures.state

pub returns-clause-wrote : goal.returns-clause-wrote
returns-clause-wrote g c =
    let k = c.args.self.now in
    let n = c.end_periods.new.self in
    let u = with_period k.watcher.state k.period in
    let v = with_period n.watcher.state n.period in
    record {
      grew = grew-is (go-lines k.watcher.style k.every u v c.args.to c.in_ok-end_periods.ensures.state)
          (grew-join c.in_ok-end_periods.ensures.wrote.grew
          (rw c.end_periods.ensures.style at c.in_ok-go_on.ensures.wrote.grew));
      no_failure = c.in_ok-go_on.ensures.wrote.no_failure ∙ c.in_ok-end_periods.ensures.wrote.no_failure;
      err = tt;
    }
