use Rattle.std.proofs.Common.{sym, arith}
use Rattle.aes3_level.specs.Words.{word_cells, word_len}
use Rattle.aes3_lock.proofs.begun_subframe.last_of.Goals as goal
use Rattle.aes3_frame.proofs.ReadCells.{last-of}

pub returns-then-word-eq0 : goal.returns-then-word-eq0
unfolding word_cells word_len
returns-then-word-eq0 c = sym (last-of c.args.word 0 (omega arith))

pub returns-else-word-eq0 : goal.returns-else-word-eq0
unfolding word_cells word_len
returns-else-word-eq0 c = sym (last-of c.args.word 1 (omega arith))
