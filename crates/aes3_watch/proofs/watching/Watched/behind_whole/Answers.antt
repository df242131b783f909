use Rattle.std.proofs.Common.{◌+◌, true, false, refl, sym, ◌∙◌}
use Rattle.aes3_watch.proofs.WatchedCells.{whole-is}
use Rattle.aes3_watch.proofs.watching.Watched.behind_whole.Goals as goal

pub returns-then-slips : goal.returns-then-slips
returns-then-slips c = whole-is c.args.self c.args.at (c.args.self.losses + 1) c.args.now true
    (sym c.slips-slips.ensures ∙ c.if-slips.true) refl

pub returns-else-slips : goal.returns-else-slips
returns-else-slips c = whole-is c.args.self c.args.at c.args.self.losses c.args.now false
    (sym c.slips-slips.ensures ∙ c.if-slips.false) refl
