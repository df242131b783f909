use Rattle.aes3_wave_runs.proofs.Says.{rate-is-named}
use Rattle.aes3_wave_runs.proofs.laws.rate_is_named.Goals as goal

pub returns : goal.returns
returns c = rate-is-named
