use Rattle.std.proofs.Common.{◌∙◌}
use Rattle.aes3_capture_recovery.proofs.Telling.{stands-still}
use Rattle.aes3_capture_recovery.proofs.recovery.Recovery.still.Goals as goal

pub returns-clause-stands : goal.returns-clause-stands
returns-clause-stands g c = λ setting level runs behind s.
    let k = c.note_dead.ensures.keeps in
    stands-still g.T.Sink.taken c.args.self.now _ c.release.new.self c.wait.new.self c.args.sink.now
    c.release.new.sink c.wait.new.sink c.wait.result setting level runs behind _ s k.found_is k.known_is
    c.note_dead.ensures.held k.measured_is c.note_dead.ensures.line k.runs_are k.count_is c.in_ok-release.ensures.told
    c.release.ensures.keeps (c.wait.ensures.told setting level) c.wait.ensures.all c.wait.ensures.high
    (c.wait.ensures.count_is ∙ c.release.ensures.keeps.count_is)
    (c.wait.ensures.state ∙ c.release.ensures.state ∙ c.note_dead.ensures.state)
