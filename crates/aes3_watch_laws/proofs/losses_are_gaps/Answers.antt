use Rattle.aes3_watch_laws.proofs.WatchedGaps.{losses-are-gaps}
use Rattle.aes3_watch_laws.proofs.losses_are_gaps.Goals as goal

pub returns : goal.returns
returns c = losses-are-gaps
