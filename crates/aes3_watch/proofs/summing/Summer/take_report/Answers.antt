use Rattle.std.proofs.Common.{◌+◌, ap, ap₂, ◌∙◌, refl}
use Rattle.std.proofs.lemmas.Result.{err_from_is_err_and}
use Rattle.aes3_cell.proofs.Growing.{grew-is, grew-join, front-is, front-join, front-more}
use Rattle.aes3_lock.specs.Following.{report_in}
use Rattle.aes3_watch.specs.Watching.{event_lines, told_events}
use Rattle.aes3_watch.specs.Sums.{go_to, with_period}
use Rattle.aes3_watch.proofs.EventWrites.{put-one, wrote-failed}
use Rattle.aes3_watch.proofs.Sums.{kept-go, report-lines}
use Rattle.aes3_watch.proofs.summing.Summer.take_report.Goals as goal

pub take_report-requires-clause-kept : goal.take_report-requires-clause-kept
take_report-requires-clause-kept g c =
    let k = c.args.self.now in
    let n = c.go_to.new.self in
    kept-go k.every (with_period k.watcher.state k.period)
    (with_period n.watcher.state n.period) c.place_in.result k.watcher.lasts n.watcher.lasts
    c.in_ok-go_to.ensures.state c.go_to.ensures.lasts c.requires.kept

pub returns-in_err-go_to-clause-wrote : goal.returns-in_err-go_to-clause-wrote
returns-in_err-go_to-clause-wrote g c =
    let k = c.args.self.now in
    let x = report_in c.args.lock.now c.args.ending in
    let u = with_period k.watcher.state k.period in
    let v = go_to k.every u c.place_in.result in
    let told = told_events v.watched x in
    let p = err_from_is_err_and c.from_residual.result c.from_residual.ensures.1 in
    let f = c.in_err-go_to.ensures.wrote.err in
    rw p.1 (wrote-failed f.0
    (front-is (report-lines k.watcher.style k.every u v x c.place_in.result told c.place_in.ensures refl refl)
    (front-more f.1 (event_lines k.watcher.style told))))

pub returns-in_err-put_events-clause-wrote : goal.returns-in_err-put_events-clause-wrote
returns-in_err-put_events-clause-wrote g c =
    let k = c.args.self.now in
    let n = c.go_to.new.self in
    let x = report_in c.args.lock.now c.args.ending in
    let told = put-one _ c.deref-2.ensures.0 c.take_report.ensures.events c.new-events.ensures in
    let style = ap (λ w. w.style) c.count_report.ensures.watcher ∙ c.take_report.ensures.style
    ∙ c.go_to.ensures.style in
    let p = err_from_is_err_and c.from_residual-in_err-put_events.result
    c.from_residual-in_err-put_events.ensures.1 in
    let f = c.in_err-put_events.ensures.err in
    rw p.1 (wrote-failed (f.0 ∙ ap (λ m. m + 1) c.in_ok-go_to.ensures.wrote.no_failure)
    (front-is (report-lines k.watcher.style k.every (with_period k.watcher.state k.period)
    (with_period n.watcher.state n.period) x c.place_in.result _ c.place_in.ensures
    c.in_ok-go_to.ensures.state refl)
    (front-join c.in_ok-go_to.ensures.wrote.grew (front-is (ap₂ event_lines style told) f.1))))

pub returns-clause-wrote : goal.returns-clause-wrote
returns-clause-wrote g c =
    let k = c.args.self.now in
    let n = c.go_to.new.self in
    let x = report_in c.args.lock.now c.args.ending in
    let told = put-one _ c.deref-2.ensures.0 c.take_report.ensures.events c.new-events.ensures in
    let style = ap (λ w. w.style) c.count_report.ensures.watcher ∙ c.take_report.ensures.style
    ∙ c.go_to.ensures.style in
    record {
      grew = grew-is (report-lines k.watcher.style k.every (with_period k.watcher.state k.period)
          (with_period n.watcher.state n.period) x c.place_in.result _ c.place_in.ensures
          c.in_ok-go_to.ensures.state refl)
          (grew-join c.in_ok-go_to.ensures.wrote.grew
          (grew-is (ap₂ event_lines style told) c.in_ok-put_events.ensures.grew));
      no_failure = c.in_ok-put_events.ensures.no_failure ∙ c.in_ok-go_to.ensures.wrote.no_failure;
      err = tt;
    }
