use Rattle.std.proofs.Common.{rules}
use Rattle.aes3_capture_recovery.proofs.edges.Piece.new.Goals as goal

pub returns : goal.returns
returns c = search rules
