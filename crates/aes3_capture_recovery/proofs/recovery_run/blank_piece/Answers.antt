use Rattle.std.proofs.Common.{refl}
use Rattle.aes3_capture_recovery.proofs.recovery_run.blank_piece.Goals as goal

pub returns : goal.returns
returns c = refl
