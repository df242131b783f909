use Rattle.std.proofs.Common.{refl, ap, sym, ◌∙◌, ◌+◌, ◌++◌, ◌∷◌, [], ◌≡◌, subst}
use Rattle.aes3_level.specs.Cells.{after, other}
use Rattle.aes3_level.proofs.Runs.{other-other}
use Rattle.aes3_capture_recovery.proofs.Writing.{writes-end}
use Rattle.aes3_capture_recovery.specs.Endings.{level_if}
use Rattle.aes3_capture_recovery.specs.Recovering.{AreTold}
use Rattle.aes3_capture_recovery.proofs.Recovering.{ended-ok}
use Rattle.aes3_capture_recovery.proofs.Telling.{told-keeps, told-more}
use Rattle.aes3_capture_recovery.proofs.recovery.Recovery.end.Goals as goal

pub returns-clause-ended : goal.returns-clause-ended
returns-clause-ended g c = λ setting level done past w turns.
    let old = c.args.self.now in
    let new = c.tell.new.self in
    let k = c.tell.ensures.keeps in
    let taken = c.take_waiting-run.ensures in
    let high : level_if c.is_high-high.result ≡ other (after level done)
    = ap level_if (c.is_high-high.ensures ∙ taken.level) ∙ turns in
    let told : AreTold (g.T.Sink.taken c.tell.new.sink) setting level
    (done ++ (past + c.take_waiting-run.result) ∷ []) 0 new
    = told-more _ new c.args.sink.now c.tell.new.sink setting level done past c.take_waiting-run.result []
    (told-keeps (g.T.Sink.taken c.args.sink.now) setting level done past old _ w refl refl refl refl taken.queue
    taken.follower)
    (c.in_ok-tell.ensures.told (after level done) high) k.found_is k.known_is k.measured_is in
    let all : AreTold (g.T.Sink.taken c.tell.new.sink) setting level (done ++ (past + old.line.edges.run) ∷ []) 0 new
    = subst (λ n. AreTold (g.T.Sink.taken c.tell.new.sink) setting level (done ++ (past + n) ∷ []) 0 new)
    taken.all told in
    ended-ok setting level (done ++ (past + old.line.edges.run) ∷ []) new c.tell.new.sink c.finish.new.sink
    tt (g.T.Sink.taken c.flush.new.self) c.flush.result all c.in_ok-finish.ensures.cells
    c.flush.ensures.bytes

pub returns-clause-writes : goal.returns-clause-writes
returns-clause-writes g c = λ found begun all w.
    let level = other (level_if c.is_high-high.result) in
    let told = c.in_ok-tell.ensures.told level (sym (other-other (level_if c.is_high-high.result))) in
    writes-end level c.take_waiting-run.result c.take_waiting-run.new.self c.tell.new.self.line c.args.self.now.line.queue c.args.sink.now c.tell.new.sink
    c.finish.new.sink tt (g.T.Sink.taken c.flush.new.self) c.flush.result begun all
    c.take_waiting-run.ensures.queue (told.found found) c.in_ok-finish.ensures.cells c.flush.ensures.bytes w
