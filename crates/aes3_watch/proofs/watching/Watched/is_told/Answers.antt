use Rattle.std.proofs.Common.{arith}
use Rattle.aes3_watch.proofs.WatchedCells.{told-is}
use Rattle.aes3_watch.proofs.watching.Watched.is_told.Goals as goal

pub returns-else-self : goal.returns-else-self
returns-else-self c = told-is c.args.self.now c.args.to c.saturating_sub.result (omega arith) c.if-self.false
