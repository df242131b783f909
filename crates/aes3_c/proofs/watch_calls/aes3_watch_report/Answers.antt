use Rattle.std.proofs.Common.{◌^◌, ◌≤◌, ◌∙◌, ap₂, map, subst, sym}
use Rattle.aes3_frame.specs.Files.{payload_of}
use Rattle.aes3_lock.specs.declared.report.Report.{Report}
use Rattle.aes3_lock.specs.Remains.{place_of}
use Rattle.aes3_watch.specs.Watching.{next, told_events}
use Rattle.aes3_c.proofs.GapCalls.{ending-told}
use Rattle.aes3_c.proofs.WatchCalls.{next-near, report-put}
use Rattle.aes3_c.proofs.watch_calls.aes3_watch_report.Goals as goal

pub returns-clause-events : goal.returns-clause-events
returns-clause-events c = λ x is cells r put p n.
    let block = map payload_of c.args.report.now.words in
    let same = ending-told block c.args.report.now x c.ending_of.result c.in-Some.ending (c.ending_of.ensures block)
    c.in-Some.is is in
    let near = subst (λ (y : Report). place_of y ≤ 2 ^ 43) (sym same) (next-near x p n) in
    report-put c.keep_watched.new.kept x c.take_ending.new.state c.deref.result.now p n
    (c.take_ending.ensures.state near ∙ ap₂ next c.watched_of-state.ensures same)
    (c.deref.ensures.0 ∙ c.take_ending.ensures.events near ∙ ap₂ told_events c.watched_of-state.ensures same)
    c.keep_watched.ensures c.put_events.ensures.put
