use Rattle.std.proofs.Common.{refl, sym, ap, ◌∙◌, ◌++◌, ◌∷◌, [], ◌≡◌, ◌+◌, arith, subst, IfOk}
use Rattle.aes3_level.specs.Cells.{after, other}
use Rattle.aes3_level.proofs.Runs.{other-other}
use Rattle.aes3_capture_recovery.specs.Endings.{level_if}
use Rattle.aes3_capture_recovery.specs.Beginning.{Begun}
use Rattle.aes3_capture_recovery.specs.Recovering.{AreTold, Holds, StandsOn, runs_waiting}
use Rattle.aes3_capture_recovery.specs.declared.recovery.State.TheVariants.{Following, Measuring, Still}
use Rattle.aes3_capture_recovery.proofs.Beginning.{not-both}
use Rattle.aes3_capture_recovery.proofs.States.{apart, measuring-apart}
use Rattle.aes3_capture_recovery.proofs.Telling.{ok-map, stands-run, tell-ok, told-keeps}
use Rattle.aes3_capture_recovery.proofs.recovery.Recovery.edge.Goals as goal

pub returns-in-Following-clause-stands : goal.returns-in-Following-clause-stands
returns-in-Following-clause-stands g c = λ setting level done past h turns flips.
    let old = c.args.self.now in
    let new = c.follow.new.self in
    let k = c.follow.ensures.keeps in
    let found = h.order.followed c.in-Following.is in
    stands-run g.T.Sink.taken old new c.args.sink.now c.follow.new.sink c.follow.result setting level done past
    c.args.run c.args.high
    (h.order.none_wait (λ m. apart (sym c.in-Following.is ∙ m))) h.told_is turns flips
    (λ e. tell-ok old new c.args.sink.now c.follow.new.sink c.follow.result (after level done) (level_if c.args.high)
    c.args.run found e c.follow.ensures.told) k (λ f. k.found_is ∙ found)
  where
    apart : Following ≡ Measuring → ⊥
    apart e = cc

pub returns-in-Still-clause-stands : goal.returns-in-Still-clause-stands
returns-in-Still-clause-stands g c = λ setting level done past h turns flips.
    let old = c.args.self.now in
    let new = c.tell.new.self in
    stands-run g.T.Sink.taken _ new c.args.sink.now c.tell.new.sink c.tell.result setting level done past
    c.args.run c.args.high
    (h.order.none_wait (λ m. apart (sym c.in-Still.is ∙ m)))
    (told-keeps (g.T.Sink.taken c.args.sink.now) setting level done past old _ h.told_is refl refl refl refl refl refl)
    turns flips (c.tell.ensures.told (after level done)) c.tell.ensures.keeps
    (λ f. absurd (unlike (sym c.tell.ensures.state ∙ f)))
  where
    apart : Still ≡ Measuring → ⊥
    apart e = cc

    unlike : Measuring ≡ Following → ⊥
    unlike e = cc

pub returns-in-Measuring-clause-stands : goal.returns-in-Measuring-clause-stands
returns-in-Measuring-clause-stands g c = λ setting level done past h turns flips.
    let old = c.args.self.now in
    let new = c.gather.new.self in
    let none = h.order.none_past c.in-Measuring.is in
    let waits = runs_waiting old in
    ok-map c.gather.result _ _
    (λ w. subst (λ n. StandsOn (g.T.Sink.taken c.gather.new.sink) setting level ((done ++ waits) ++ n ∷ [])
    new.line.edges.run new) (let z : c.args.run ≡ past + c.args.run = omega (arith, none) in z) w)
    (c.gather.ensures.stands setting level done c.in-Measuring.is
    (subst (λ n. Holds (g.T.Sink.taken c.args.sink.now) setting level done n old) none h)
    (flips ∙ ap other turns ∙ other-other (after level (done ++ waits))))

pub returns-in-Following-clause-begins : goal.returns-in-Following-clause-begins
returns-in-Following-clause-begins g c = λ none is setting level done past h turns flips.
    absurd (not-both c.args.self.now.found (h.order.followed c.in-Following.is) none)

pub returns-in-Still-clause-begins : goal.returns-in-Still-clause-begins
returns-in-Still-clause-begins g c = λ none is setting level done past h turns flips.
    absurd (measuring-apart c.tell.new.self.state c.tell.ensures.state is)

pub returns-in-Measuring-clause-begins : goal.returns-in-Measuring-clause-begins
returns-in-Measuring-clause-begins g c = λ none is setting level done past h turns flips.
    let old = c.args.self.now in
    let none_past = h.order.none_past c.in-Measuring.is in
    let waits = runs_waiting old in
    subst (λ n. IfOk c.gather.result (λ x. Begun (g.T.Sink.taken c.gather.new.sink) setting level done (waits ++ n ∷ [])
    c.gather.new.self)) (let z : c.args.run ≡ past + c.args.run = omega (arith, none_past) in z)
    (c.gather.ensures.begins none c.in-Measuring.is is setting level done
    (subst (λ n. AreTold (g.T.Sink.taken c.args.sink.now) setting level done n old) none_past h.told_is)
    (flips ∙ ap other turns ∙ other-other (after level (done ++ waits))))

pub returns-in-Still-clause-stays : goal.returns-in-Still-clause-stays
returns-in-Still-clause-stays g c = λ is narrow spread ahead k. absurd (apart c.args.self.now.state c.in-Still.is is)

pub returns-in-Measuring-clause-stays : goal.returns-in-Measuring-clause-stays
returns-in-Measuring-clause-stays g c = λ is narrow spread ahead k.
    absurd (measuring-apart c.args.self.now.state c.in-Measuring.is is)
