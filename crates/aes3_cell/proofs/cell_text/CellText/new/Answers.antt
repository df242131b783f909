use Rattle.std.proofs.Common.{rules}
use Rattle.aes3_cell.specs.TextReading.{text_reader_of}
use Rattle.aes3_cell.proofs.cell_text.CellText.new.Goals as goal

pub returns-clause-start : goal.returns-clause-start
unfolding text_reader_of
returns-clause-start c = search rules

pub returns-clause-seen : goal.returns-clause-seen
returns-clause-seen c = search rules
