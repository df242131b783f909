use Rattle.aes3_level.specs.Words.{word_cells, word_len}
use Rattle.aes3_lock.proofs.SubframeWords.{cells-completed}
use Rattle.aes3_lock.proofs.begun_subframe.complete_subframe.Goals as goal

pub returns : goal.returns
unfolding word_cells word_len
returns c = λ h. cells-completed c.args.len c.args.cells c.args.word c.requires h
