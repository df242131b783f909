use Rattle.aes3_watch.proofs.WatchedCells.{begins-watched}
use Rattle.aes3_watch.proofs.watching.Watcher.new.Goals as goal

pub returns-clause-state : goal.returns-clause-state
returns-clause-state c = begins-watched c.new.ensures
