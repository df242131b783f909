use Rattle.std.proofs.Common.{◌≡◌, ◌∷◌, [], ap, ◌∙◌, sym, take, drop, refl, arith}
use Rattle.aes3_level.specs.Cells.{after, other}
use Rattle.aes3_capture_recovery.specs.Endings.{level_if}
use Rattle.aes3_capture_recovery.specs.Recovering.{StandsBehind}
use Rattle.aes3_capture_recovery.specs.RecoverySteps.{RunsCounted}
use Rattle.aes3_capture_recovery.proofs.Ahead.{stands-single}
use Rattle.aes3_capture_recovery.proofs.FollowedAhead.{run-counted, runs-same}
use Rattle.aes3_capture_recovery.proofs.OnLineAhead.{stays-single}
use Rattle.aes3_capture_recovery.proofs.SameLevels.{level-not}
use Rattle.aes3_capture_recovery.proofs.Recovering.{keeps-told}
use Rattle.aes3_capture_recovery.proofs.recovery.Recovery.take_edges.Given.{Over}
use Rattle.aes3_capture_recovery.proofs.recovery.Recovery.take_edges.Goals.{In_ok-edge, then-together+in-Ok-eq0, else-together}
use Rattle.aes3_capture_recovery.proofs.recovery.Recovery.take_edges.Goals as goal

-- no edges were taken together, so all is as it was
kept : (g : Over) (c : In_ok-edge g) → (c.if-together.self ≡ c.args.self.now) × (c.if-together.sink ≡ c.args.sink.now)
kept g c = elim c.if-together.branch [
  | then-together+in-Ok-eq0 x ↦ let e = x.in-Ok-eq0.ensures.none x.in-Ok-eq0.field-0-test in (x.self-is ∙ e.0, x.sink-is ∙ e.1)
  | else-together x ↦ (x.self-is, x.sink-is)
]

pub returns-clause-counted : goal.returns-clause-counted
returns-clause-counted g c = λ is before turns.
    let same = kept g (goal.at.returns-clause-counted g c).In_ok-edge in
    let old = c.args.self.now in
    let new = c.edge.new.self in
    let told = c.in_ok-edge.ensures.told (ap (λ s. s.state) same.0 ∙ is) in
    let one = run-counted c.stand.new.self new.line c.if-together.sink c.edge.new.sink tt before
    (level_if c.args.high) c.run-run.result turns told in
    let all : RunsCounted g.T.Sink.taken old.line new.line c.if-together.sink c.edge.new.sink before
    (c.run-run.result ∷ [])
    = runs-same old.line c.stand.new.self new.line new.line c.if-together.sink c.edge.new.sink before
    (c.run-run.result ∷ []) (c.stand.ensures.follower ∙ ap (λ s. s.line.follower) same.0)
    (c.stand.ensures.queue ∙ ap (λ s. s.line.queue) same.0) refl refl one in
    rw (c.run-run.ensures, ← same.1) all

pub returns-clause-told : goal.returns-clause-told
returns-clause-told g c = λ setting level runs w turns.
    let same = kept g (goal.at.returns-clause-told g c).In_ok-edge in
    let w2 : StandsBehind (g.T.Sink.taken c.if-together.sink) setting level runs c.if-together.self
    = rw (same.0, same.1) w in
    stands-single (g.T.Sink.taken c.if-together.sink) (g.T.Sink.taken c.edge.new.sink) c.if-together.self _ c.edge.new.self
    setting level runs (take 1 (drop c.args.at c.args.places.now.runs)) c.run-run.result
    (keeps-told _ _ refl refl refl refl refl refl c.stand.ensures.queue c.stand.ensures.follower)
    refl w2
    c.run-run.ensures
    (λ done h all. c.in_ok-edge.ensures.stands setting level done 0 h (turns ∙ ap (λ x. other (after level x)) (sym all))
    (ap level_if c.stand.ensures.high ∙ level-not c.args.high))

pub returns-clause-stays : goal.returns-clause-stays
returns-clause-stays g c = λ is narrow spread more k.
    let same = (kept g (goal.at.returns-clause-stays g c).In_ok-edge).0 in
    stays-single c.args.self.now _ c.edge.new.self narrow spread c.args.at c.args.count c.run-run.result
    c.args.places.now.runs more (c.stand.ensures.follower ∙ ap (λ s. s.line.follower) same) (ap (λ s. s.spread) same)
    (ap (λ s. s.figures.measured) same) c.requires.within (omega (arith, c.requires.few, c.args.places.now.many)) c.run-run.ensures
    (λ ahead kept. c.in_ok-edge.ensures.stays (ap (λ s. s.state) same ∙ is) narrow spread ahead kept) k
