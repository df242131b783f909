use Rattle.std.proofs.Common.{refl}
use Rattle.aes3_input.proofs.conversion.blank_piece.Goals as goal

pub returns : goal.returns
returns c = refl
