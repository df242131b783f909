use Rattle.std.proofs.Common.{refl}
use Rattle.aes3_capture_recovery.proofs.Telling.{passes-ok}
use Rattle.aes3_capture_recovery.proofs.recovery.Recovery.wait.Goals as goal

pub returns-then-self-clause-told : goal.returns-then-self-clause-told
returns-then-self-clause-told g c = λ setting level done past w turns.
    passes-ok c.args.self.now _ c.args.sink.now c.pass.new.sink c.pass.result setting level done past c.if-self.true w
    c.pass.ensures.told c.pass.ensures.all turns refl refl
