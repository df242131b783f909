use Rattle.std.proofs.Common.{◌+◌, ap, ap₂, ◌∙◌, ◌++◌, ◌∷◌, [], refl}
use Rattle.std.proofs.lemmas.Result.{err_from_is_err_and}
use Rattle.aes3_cell.proofs.Growing.{grew-is, grew-join, front-is, front-join, front-more}
use Rattle.aes3_watch.specs.Watching.{event_lines, is_locked, loss_events, up_to}
use Rattle.aes3_text_lines.specs.declared.event.Event.TheVariants.{End}
use Rattle.aes3_watch.specs.Sums.{go_to, last_sum, notice_lines, with_period}
use Rattle.aes3_watch.proofs.EventWrites.{put-one, wrote-failed}
use Rattle.aes3_watch.proofs.Sums.{all-lines, end-known}
use Rattle.aes3_watch.proofs.summing.Summer.go_to_end.Goals as goal

pub returns-in_err-go_to-clause-wrote : goal.returns-in_err-go_to-clause-wrote
returns-in_err-go_to-clause-wrote g c =
    let k = c.args.self.now in
    let n = c.args.seen in
    let u = with_period k.watcher.state k.period in
    let v = go_to k.every u n in
    let told = loss_events v.watched n ++ End n (is_locked (up_to v.watched n)) ∷ [] in
    let p = err_from_is_err_and c.from_residual.result c.from_residual.ensures.1 in
    let f = c.in_err-go_to.ensures.wrote.err in
    rw p.1 (wrote-failed f.0
    (front-is (all-lines k.watcher.style k.every u v n told refl refl)
    (front-more f.1 (notice_lines k.watcher.style (last_sum v n) ++ event_lines k.watcher.style told))))

pub returns-in_err-tell_last-clause-wrote : goal.returns-in_err-tell_last-clause-wrote
returns-in_err-tell_last-clause-wrote g c =
    let k = c.args.self.now in
    let n = c.go_to.new.self in
    let told = loss_events n.watcher.state c.args.seen
    ++ End c.args.seen (is_locked (up_to n.watcher.state c.args.seen)) ∷ [] in
    let p = err_from_is_err_and c.from_residual-in_err-tell_last.result
    c.from_residual-in_err-tell_last.ensures.1 in
    let f = c.in_err-tell_last.ensures.err in
    rw p.1 (wrote-failed (f.0 ∙ ap (λ m. m + 1) c.in_ok-go_to.ensures.wrote.no_failure)
    (front-is (all-lines k.watcher.style k.every (with_period k.watcher.state k.period)
    (with_period n.watcher.state n.period) c.args.seen told c.in_ok-go_to.ensures.state refl)
    (front-join c.in_ok-go_to.ensures.wrote.grew
    (front-more (rw c.go_to.ensures.style at f.1) (event_lines k.watcher.style told)))))

pub returns-in_err-put_events-clause-wrote : goal.returns-in_err-put_events-clause-wrote
returns-in_err-put_events-clause-wrote g c =
    let k = c.args.self.now in
    let n = c.go_to.new.self in
    let told = put-one _ c.deref.ensures.0 c.go_to_end.ensures.events c.new-events.ensures in
    let p = err_from_is_err_and c.from_residual-in_err-put_events.result
    c.from_residual-in_err-put_events.ensures.1 in
    let f = c.in_err-put_events.ensures.err in
    rw p.1 (wrote-failed (f.0 ∙ ap (λ m. m + 1) (c.in_ok-tell_last.ensures.no_failure ∙ c.in_ok-go_to.ensures.wrote.no_failure))
    (front-is (all-lines k.watcher.style k.every (with_period k.watcher.state k.period)
    (with_period n.watcher.state n.period) c.args.seen _ c.in_ok-go_to.ensures.state refl)
    (front-join c.in_ok-go_to.ensures.wrote.grew
    (front-join (rw c.go_to.ensures.style at c.in_ok-tell_last.ensures.grew)
    (front-is (ap₂ event_lines (c.go_to_end.ensures.style ∙ c.go_to.ensures.style) told) f.1)))))

pub returns-clause-state : goal.returns-clause-state
returns-clause-state g c =
    let k = c.args.self.now in
    let n = c.go_to.new.self in
    end-known k.every (with_period k.watcher.state k.period)
    (with_period n.watcher.state n.period) c.go_to_end.new.self.state c.args.seen c.requires.some
    c.in_ok-go_to.ensures.state c.go_to_end.ensures.state

pub returns-clause-wrote : goal.returns-clause-wrote
returns-clause-wrote g c =
    let k = c.args.self.now in
    let n = c.go_to.new.self in
    let told = put-one _ c.deref.ensures.0 c.go_to_end.ensures.events c.new-events.ensures in
    record {
      grew = grew-is (all-lines k.watcher.style k.every (with_period k.watcher.state k.period)
          (with_period n.watcher.state n.period) c.args.seen _ c.in_ok-go_to.ensures.state refl)
          (grew-join c.in_ok-go_to.ensures.wrote.grew
          (grew-join (rw c.go_to.ensures.style at c.in_ok-tell_last.ensures.grew)
          (grew-is (ap₂ event_lines (c.go_to_end.ensures.style ∙ c.go_to.ensures.style) told)
          c.in_ok-put_events.ensures.grew)));
      no_failure = c.in_ok-put_events.ensures.no_failure ∙ c.in_ok-tell_last.ensures.no_failure ∙ c.in_ok-go_to.ensures.wrote.no_failure;
      err = tt;
    }
