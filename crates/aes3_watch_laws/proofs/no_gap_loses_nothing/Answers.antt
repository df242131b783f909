use Rattle.aes3_watch_laws.proofs.Rowed.{no-gap}
use Rattle.aes3_watch_laws.proofs.no_gap_loses_nothing.Goals as goal

pub returns : goal.returns
returns c = no-gap
