use Rattle.std.proofs.Common.{◌+◌, ap, ◌∙◌}
use Rattle.std.proofs.lemmas.Result.{err_from_is_err_and}
use Rattle.aes3_cell.proofs.Growing.{grew-is, grew-join, front-is, front-join, front-more}
use Rattle.aes3_text_lines.specs.SumLines.{sum_line}
use Rattle.aes3_watch.specs.Sums.{with_period}
use Rattle.aes3_watch.proofs.Sums.{period-lines}
use Rattle.aes3_watch.proofs.EventWrites.{wrote-failed}
use Rattle.aes3_watch.proofs.summing.Summer.end_period.Goals as goal

pub returns-in_err-go_on-clause-wrote : goal.returns-in_err-go_on-clause-wrote
returns-in_err-go_on-clause-wrote g c =
    let k = c.args.self.now in
    let n = c.go_on.new.self in
    let p = err_from_is_err_and c.from_residual.result c.from_residual.ensures.1 in
    let f = c.in_err-go_on.ensures.wrote.err in
    rw p.1 (wrote-failed f.0
    (front-is (period-lines k.watcher.style k.every (with_period k.watcher.state k.period)
    (with_period n.watcher.state n.period) c.go_on.ensures.state)
    (front-more f.1 (sum_line k.watcher.style
    (record { from = n.period.from; to = k.period.from + k.every; figures = n.period.figures })))))

pub returns-in_err-tell-clause-wrote : goal.returns-in_err-tell-clause-wrote
returns-in_err-tell-clause-wrote g c =
    let k = c.args.self.now in
    let n = c.go_on.new.self in
    let p = err_from_is_err_and c.from_residual-in_err-tell.result c.from_residual-in_err-tell.ensures.1 in
    let f = c.in_err-tell.ensures.err in
    rw p.1 (wrote-failed (f.0 ∙ ap (λ m. m + 1) c.in_ok-go_on.ensures.wrote.no_failure)
    (front-is (period-lines k.watcher.style k.every (with_period k.watcher.state k.period)
    (with_period n.watcher.state n.period) c.go_on.ensures.state)
    (front-join c.in_ok-go_on.ensures.wrote.grew (rw c.go_on.ensures.style at f.1))))

pub returns-clause-wrote : goal.returns-clause-wrote
returns-clause-wrote g c =
    let k = c.args.self.now in
    let n = c.go_on.new.self in
    record {
      grew = grew-is (period-lines k.watcher.style k.every (with_period k.watcher.state k.period)
          (with_period n.watcher.state n.period) c.go_on.ensures.state)
          (grew-join c.in_ok-go_on.ensures.wrote.grew (rw c.go_on.ensures.style at c.in_ok-tell.ensures.grew));
      no_failure = c.in_ok-tell.ensures.no_failure ∙ c.in_ok-go_on.ensures.wrote.no_failure;
      err = tt;
    }
