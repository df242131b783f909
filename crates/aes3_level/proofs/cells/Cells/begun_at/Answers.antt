use Rattle.std.proofs.Common.{arith}
use Rattle.aes3_level.proofs.Remaining.{begun-at}
use Rattle.aes3_level.proofs.cells.Cells.begun_at.Goals as goal

pub returns : goal.returns
returns c =
    begun-at c.args.words.now c.args.at c.args.len c.min-here.result _ (omega arith) c.requires.some c.requires.first
    c.min-here.ensures
