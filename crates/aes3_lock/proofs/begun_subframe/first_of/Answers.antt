use Rattle.aes3_lock.proofs.SubframeWords.{cells-first}
use Rattle.aes3_lock.proofs.begun_subframe.first_of.Goals as goal

pub returns-clause-cells : goal.returns-clause-cells
returns-clause-cells c = cells-first c.args.len c.args.word c.requires
