use Rattle.std.proofs.Common.{refl, arith, rules}
use Rattle.aes3_capture_recovery.proofs.Awaiting.{awaits-level-ok}
use Rattle.aes3_capture_recovery.proofs.Recovering.{keeps-told, recovered-level-ok}
use Rattle.aes3_capture_recovery.proofs.recovery.Recovery.wait_on.Goals as goal

pub returns-clause-recovered : goal.returns-clause-recovered
returns-clause-recovered g c = λ some setting seen w.
    recovered-level-ok (g.T.Sink.taken c.args.sink.now) (g.T.Sink.taken c.rest.new.sink) setting seen c.args.samples
    c.args.self.now _ c.rest.new.self c.rest.result some c.requires.few (search (rules, c.stand.ensures.high, c.is_high-high.ensures))
    (omega (arith, c.stand.ensures.run, c.waiting-waiting.ensures, c.saturating_add.ensures))
    (keeps-told _ _ refl refl refl refl refl refl c.stand.ensures.queue c.stand.ensures.follower)
    refl c.rest.ensures.high (omega (arith, c.saturating_add-self.ensures, c.rest.ensures.samples)) c.rest.ensures.short (c.rest.ensures.stands setting) w

pub returns-clause-awaits : goal.returns-clause-awaits
returns-clause-awaits g c = λ some is setting seen a.
    awaits-level-ok (g.T.Sink.taken c.args.sink.now) (g.T.Sink.taken c.rest.new.sink) setting seen c.args.samples
    c.args.self.now _ c.rest.new.self c.rest.result some c.requires.few (search (rules, c.stand.ensures.high, c.is_high-high.ensures))
    (omega (arith, c.stand.ensures.run, c.waiting-waiting.ensures, c.saturating_add.ensures))
    (keeps-told _ _ refl refl refl refl refl refl c.stand.ensures.queue c.stand.ensures.follower)
    refl c.rest.ensures.high (omega (arith, c.saturating_add-self.ensures, c.rest.ensures.samples)) c.rest.ensures.short (c.rest.ensures.stands setting) is
    c.rest.ensures.still c.rest.ensures.found c.rest.ensures.measured c.rest.ensures.state a
