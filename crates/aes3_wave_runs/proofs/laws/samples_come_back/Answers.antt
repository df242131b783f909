use Rattle.aes3_wave_runs.proofs.SamplesBack.{samples-come-back}
use Rattle.aes3_wave_runs.proofs.laws.samples_come_back.Goals as goal

pub returns : goal.returns
returns c = samples-come-back
