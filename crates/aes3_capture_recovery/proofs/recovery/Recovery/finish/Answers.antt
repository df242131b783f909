use Rattle.std.proofs.Common.{arith, refl, sym, ap, ◌∙◌, ◌+◌, ◌≡◌, subst}
use Rattle.aes3_level.specs.Cells.{after, other}
use Rattle.aes3_capture_recovery.specs.Endings.{level_if}
use Rattle.aes3_capture_recovery.specs.Recovering.{AreTold}
use Rattle.aes3_capture_recovery.proofs.Recovering.{ended-recovered-ok}
use Rattle.aes3_capture_recovery.proofs.Telling.{none-past, ok-const, told-keeps}
use Rattle.aes3_capture_recovery.proofs.Writing.{writes-on}
use Rattle.aes3_capture_recovery.proofs.recovery.Recovery.finish.Goals as goal

pub returns-clause-recovered : goal.returns-clause-recovered
returns-clause-recovered g c = λ setting seen w.
    let old = c.args.self.now in
    let new = c.tell_gathered.new.self in
    let s = w.stands in
    let edges = c.tell_gathered.ensures.edges in
    let told = c.in_ok-tell_gathered.ensures.told setting w.level s.done s.past (none-past s.past old s.holds.order)
    (told-keeps (g.T.Sink.taken c.args.sink.now) setting w.level s.done s.past old _ s.holds.told_is refl refl refl
    refl refl refl)
    (s.turns ∙ ap (λ x. other (after w.level x)) (sym s.runs_are)) in
    let whole : AreTold (g.T.Sink.taken c.tell_gathered.new.sink) setting w.level w.runs s.past new
    = subst (λ x. AreTold (g.T.Sink.taken c.tell_gathered.new.sink) setting w.level x s.past new) s.runs_are told in
    let run : s.past + new.line.edges.run ≡ w.behind = ap (λ e. s.past + e.run) edges ∙ s.samples_are in
    ended-recovered-ok (g.T.Sink.taken c.args.sink.now) setting seen old c.end.new.self
    (g.T.Sink.taken c.end.new.sink) c.end.result w (s.past + new.line.edges.run) run
    (c.end.ensures.ended setting w.level w.runs s.past whole (ap (λ e. level_if e.high) edges ∙ s.turns))

pub returns-clause-up : goal.returns-clause-up
returns-clause-up g c =
    let before = c.tell_gathered.ensures.up in
    let kept = c.end.ensures.measured in
    ok-const c.end.result _ (omega (arith, before, kept))

pub returns-clause-begun : goal.returns-clause-begun
returns-clause-begun g c = λ none is room.
    let before = c.tell_gathered.ensures.begun none (sym c.end.ensures.state ∙ is) room in
    let kept = c.end.ensures.measured in
    ok-const c.end.result _ (omega (arith, before, kept))

pub returns-clause-writes : goal.returns-clause-writes
returns-clause-writes g c = λ found none begun all w.
    writes-on c.args.self.now.line c.tell_gathered.new.self.line c.args.sink.now c.tell_gathered.new.sink
    (g.T.Sink.taken c.end.new.sink) c.end.result begun all (c.in_ok-tell_gathered.ensures.none none found)
    (c.end.ensures.writes (c.tell_gathered.ensures.found none ∙ found) begun) w
