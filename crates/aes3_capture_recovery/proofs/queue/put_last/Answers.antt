use Rattle.std.proofs.Common.{rules}
use Rattle.aes3_capture_recovery.proofs.queue.put_last.Goals as goal

pub returns-in-Text-2 : goal.returns-in-Text-2
returns-in-Text-2 g c = search rules
