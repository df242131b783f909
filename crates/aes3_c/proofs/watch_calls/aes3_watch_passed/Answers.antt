use Rattle.std.proofs.Common.{◌∙◌, ap, arith}
use Rattle.aes3_watch.specs.Watching.{loss_events, up_to}
use Rattle.aes3_watch.proofs.Accounts.{less}
use Rattle.aes3_watch.proofs.EventWrites.{put-one}
use Rattle.aes3_c.proofs.WatchCalls.{passed-begun, passed-put}
use Rattle.aes3_c.proofs.watch_calls.aes3_watch_passed.Goals as goal

pub returns-clause-events : goal.returns-clause-events
returns-clause-events c = λ cells d r put p q s.
    let to = c.saturating_sub.result in
    passed-put c.keep_watched.new.kept cells d to c.go_on.new.self c.deref.result.now p q
    (less to c.args.seen _ (omega arith) s)
    (c.go_on.ensures.state ∙ ap (λ w. up_to w to) c.watched_of-state.ensures)
    (put-one _ c.deref.ensures.0 c.go_on.ensures.events c.new-told.ensures
    ∙ ap (λ w. loss_events w to) c.watched_of-state.ensures) c.keep_watched.ensures c.put_events.ensures.put

pub returns-clause-all : goal.returns-clause-all
returns-clause-all c = λ cells d r put p q s.
    let to = c.saturating_sub.result in
    passed-begun cells d to c.deref.result.now p q (less to c.args.seen _ (omega arith) s)
    (put-one _ c.deref.ensures.0 c.go_on.ensures.events c.new-told.ensures
    ∙ ap (λ w. loss_events w to) c.watched_of-state.ensures) c.put_events.ensures.put
