use Rattle.std.proofs.Common.{refl}
use Rattle.aes3_capture_recovery.proofs.Awaiting.{awaits-gave, followed-gave}
use Rattle.aes3_capture_recovery.proofs.OnLineAhead.{on-line-passed}
use Rattle.aes3_capture_recovery.proofs.Recovering.{recovered-gave}
use Rattle.aes3_capture_recovery.proofs.Telling.{gave-puts, ok-const}
use Rattle.aes3_capture_recovery.proofs.recovery.Recovery.pass_on.Goals as goal

pub returns-clause-recovered : goal.returns-clause-recovered
returns-clause-recovered g c = λ setting seen w.
    ok-const c.flush.result _ (rw c.flush.ensures.bytes
    (recovered-gave setting seen c.args.self.now _ c.args.sink.now c.pass_on.new.sink
    (gave-puts c.args.self.now.line c.pass_on.new.self c.args.sink.now c.pass_on.new.sink tt _
    c.in_ok-pass_on.ensures.cells)
    c.pass_on.ensures.edges c.pass_on.ensures.follower refl refl refl refl refl refl refl w))

pub returns-clause-awaits : goal.returns-clause-awaits
returns-clause-awaits g c = λ setting seen a.
    ok-const c.flush.result _ (rw c.flush.ensures.bytes
    (awaits-gave setting seen c.args.self.now _ c.args.sink.now c.pass_on.new.sink
    (gave-puts c.args.self.now.line c.pass_on.new.self c.args.sink.now c.pass_on.new.sink tt _
    c.in_ok-pass_on.ensures.cells)
    c.pass_on.ensures.edges c.pass_on.ensures.follower refl refl refl refl refl refl refl refl a))

pub returns-clause-follows : goal.returns-clause-follows
returns-clause-follows g c = λ begun front first before seen w.
    ok-const c.flush.result _ (rw c.flush.ensures.bytes
    (followed-gave begun front c.args.self.now.line _ first before seen c.args.sink.now c.pass_on.new.sink
    (gave-puts c.args.self.now.line c.pass_on.new.self c.args.sink.now c.pass_on.new.sink tt _
    c.in_ok-pass_on.ensures.cells)
    c.pass_on.ensures.edges c.pass_on.ensures.follower w))

pub returns-clause-stays : goal.returns-clause-stays
returns-clause-stays g c = λ narrow spread more w.
    ok-const c.flush.result _
    (on-line-passed c.args.self.now _ narrow spread more c.pass_on.ensures.edges c.pass_on.ensures.follower refl refl refl w)
