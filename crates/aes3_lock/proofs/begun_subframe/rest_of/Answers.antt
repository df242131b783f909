use Rattle.std.proofs.Common.{arith}
use Rattle.aes3_level.specs.Words.{word_cells, word_len}
use Rattle.aes3_lock.proofs.SubframeWords.{cells-rest, rest-few}
use Rattle.aes3_lock.proofs.begun_subframe.rest_of.Goals as goal

pub returns-clause-cells : goal.returns-clause-cells
unfolding word_cells word_len
returns-clause-cells c = cells-rest c.args.len c.args.word c.requires

pub returns-clause-few : goal.returns-clause-few
returns-clause-few c = rest-few c.args.len c.args.word c.requires (omega arith)
