use Rattle.std.proofs.Common.{◌∙◌, ap}
use Rattle.aes3_watch.proofs.EventWrites.{put-one}
use Rattle.aes3_watch.proofs.WatchedCells.{last_events}
use Rattle.aes3_c.proofs.WatchCalls.{ended-put}
use Rattle.aes3_c.proofs.watch_calls.aes3_watch_end.Goals as goal

pub returns-clause-events : goal.returns-clause-events
returns-clause-events c = λ cells r put p q s.
    ended-put cells c.deref.result.now c.args.seen p q s
    (put-one _ c.deref.ensures.0 c.go_to_end.ensures.events c.new-told.ensures
    ∙ ap (λ w. last_events w c.args.seen) c.watched_of-state.ensures) c.put_events.ensures.put
