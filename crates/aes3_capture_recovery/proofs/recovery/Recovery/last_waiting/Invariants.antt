use Rattle.std.proofs.Common.{◌≤◌, ◌*◌}
use Rattle.aes3_capture_recovery.proofs.recovery.Recovery.last_waiting.Given as goal

abbrev pub invariant-pieces : goal.invariant-pieces
invariant-pieces l = (l.left ≤ 64 * l.piece) × (l.last ≤ 64 * l.piece)
