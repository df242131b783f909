use Rattle.std.proofs.Common.{rules}
use Rattle.aes3_level.specs.Words.{word_len, word_cells}
use Rattle.aes3_input.proofs.taker.word.Goals as goal

pub returns : goal.returns
unfolding word_cells word_len
returns g c = record { ran = search (rules, c.cells.ensures.ran) }
