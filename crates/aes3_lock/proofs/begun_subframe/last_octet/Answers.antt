use Rattle.std.proofs.Common.{sym}
use Rattle.aes3_level.specs.Words.{word_cells, word_len}
use Rattle.aes3_level.proofs.WordCells.{drop-low_cells}
use Rattle.aes3_lock.proofs.begun_subframe.last_octet.Goals as goal

pub returns : goal.returns
unfolding word_cells word_len
returns c = sym (drop-low_cells 56 8 c.args.word)
