use Rattle.aes3_engine.proofs.BitsBack.{bits-back}
use Rattle.aes3_engine.proofs.laws.bits_come_back.Goals as goal

pub returns : goal.returns
returns c = bits-back
