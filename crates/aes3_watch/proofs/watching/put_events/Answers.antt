use Rattle.std.proofs.Common.{◌+◌, suc, drop, ap, ◌∙◌, arith}
use Rattle.std.proofs.lemmas.List.{take_all}
use Rattle.std.proofs.lemmas.Result.{err_from_is_err_and}
use Rattle.aes3_cell.proofs.Growing.{front-is, front-join, front-more, grew-is, grew-join}
use Rattle.aes3_watch.specs.Watching.{event_lines}
use Rattle.aes3_watch.proofs.EventWrites.{more-lines, split-lines, wrote-failed}
use Rattle.aes3_watch.proofs.watching.put_events.Goals as goal

pub returns-in_err-line_of_event : goal.returns-in_err-line_of_event
returns-in_err-line_of_event g c =
    let es = c.args.events.now in
    let style = c.args.style.now in
    let k = c.loop-event.event-index in
    let p = err_from_is_err_and c.from_residual.result c.from_residual.ensures.1 in
    let f = c.in_err-line_of_event.ensures.err in
    rw p.1 (wrote-failed (f.0 ∙ ap (λ n. n + 1) c.loop-event.invariant.quiet)
    (front-is (split-lines style es k _ (omega arith))
    (front-more (front-join c.loop-event.invariant.grew f.1) (event_lines style (drop (suc k) es)))))

pub loop-event-preserved : goal.loop-event-preserved
loop-event-preserved g c = record {
  grew = grew-is (more-lines c.args.style.now c.args.events.now c.loop-event.event-index _ (omega arith))
      (grew-join c.loop-event.invariant.grew c.in_ok-line_of_event.ensures.grew);
  quiet = c.in_ok-line_of_event.ensures.no_failure ∙ c.loop-event.invariant.quiet;
}

pub returns : goal.returns
returns g c =
    let es = c.args.events.now in
    record {
      grew = grew-is (ap (event_lines c.args.style.now) (take_all c.loop-event.event-index es (omega arith)))
          c.loop-event.invariant.grew;
      no_failure = c.loop-event.invariant.quiet;
      err = tt;
    }
