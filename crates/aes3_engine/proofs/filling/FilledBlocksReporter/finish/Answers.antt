use Rattle.std.proofs.Common.{refl}
use Rattle.aes3_cell.proofs.Growing.{grew-none}
use Rattle.aes3_engine.specs.FillSteps.{fill_writing}
use Rattle.aes3_engine.proofs.filling.FilledBlocksReporter.finish.Goals as goal

pub returns : goal.returns
unfolding fill_writing
returns g c = λ r h. record { grew = grew-none refl; no_failure = refl; err = tt }
