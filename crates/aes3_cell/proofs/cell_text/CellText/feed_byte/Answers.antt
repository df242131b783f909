use Rattle.std.proofs.Common.{rules}
use Rattle.aes3_cell.specs.CellText.{kind_of}
use Rattle.aes3_cell.proofs.cell_text.CellText.feed_byte.Goals as goal

pub returns-in_default-clause-next : goal.returns-in_default-clause-next
unfolding kind_of
returns-in_default-clause-next c = search rules
