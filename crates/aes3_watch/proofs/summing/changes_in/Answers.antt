use Rattle.std.proofs.Common.{◌≡◌, ◌+◌, ◌∙◌, refl, sym, ap₂, arith, take}
use Rattle.std.proofs.lemmas.List.Sums.{sum_by_more}
use Rattle.aes3_watch.specs.Sums.{change_of, changes_in}
use Rattle.aes3_watch.proofs.summing.changes_in.Goals as goal

pub loop-event-init : goal.loop-event-init
unfolding changes_in
loop-event-init c = record { sum = refl; few = omega arith }

pub loop-event-preserved : goal.loop-event-preserved
unfolding changes_in
loop-event-preserved c =
    let l = c.loop-event in
    let f = c.change_of-change.ensures.one in
    let g = l.invariant.few in
    let events = c.args.events.now in
    let i = l.event-index in
    let more : l.found + c.change_of-change.result ≡ changes_in (take (i + 1) events) =
    ap₂ (λ x y. x + y) l.invariant.sum c.change_of-change.ensures.change
    ∙ sym (sum_by_more change_of events i _ (omega arith)) in
    record { sum = omega (arith, more); few = omega arith }
