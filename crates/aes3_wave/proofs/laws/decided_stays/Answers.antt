use Rattle.aes3_wave.proofs.Parts.{decided-stays}
use Rattle.aes3_wave.proofs.laws.decided_stays.Goals as goal

pub returns : goal.returns
returns c = decided-stays
