use Rattle.aes3_engine.proofs.SamplesBack.{samples-back}
use Rattle.aes3_engine.proofs.laws.samples_come_back.Goals as goal

pub returns : goal.returns
returns c = samples-back
