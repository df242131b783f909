use Rattle.std.proofs.Common.{refl, append-nil, []}
use Rattle.aes3_capture_recovery.proofs.Queueing.{written-puts}
use Rattle.aes3_capture_recovery.proofs.queue.CellQueue.pass_on.Goals as goal

pub returns-clause-cells : goal.returns-clause-cells
returns-clause-cells g c = written-puts c.args.self.now _ c.put_words.result _ [] refl (append-nil _)
    c.put_words.ensures
