use Rattle.std.proofs.Common.{refl}
use Rattle.aes3_cell.proofs.Growing.{grew-none}
use Rattle.aes3_engine.specs.ExactSamples.{exact_writing}
use Rattle.aes3_engine.proofs.exact_samples.ExactBlocksReporter.finish.Goals as goal

pub returns : goal.returns
unfolding exact_writing
returns g c = λ r h. record { grew = grew-none refl; no_failure = refl; err = tt }
