use Rattle.aes3_capture_recovery.specs.Endings.{level_if}
use Rattle.aes3_capture_recovery.proofs.Telling.{tell-ok}
use Rattle.aes3_capture_recovery.proofs.recovery.Recovery.tell.Goals as goal

pub returns-then-self-clause-told : goal.returns-then-self-clause-told
returns-then-self-clause-told g c = λ level e.
    tell-ok c.args.self.now _ c.args.sink.now c.tell.new.sink c.tell.result level (level_if c.args.high) c.args.run
    c.if-self.true e c.tell.ensures.told
