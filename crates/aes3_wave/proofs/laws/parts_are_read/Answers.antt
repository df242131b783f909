use Rattle.aes3_wave.proofs.Parts.{parts-read}
use Rattle.aes3_wave.proofs.laws.parts_are_read.Goals as goal

pub returns : goal.returns
returns c = parts-read
