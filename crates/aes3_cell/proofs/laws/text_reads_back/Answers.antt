use Rattle.aes3_cell.proofs.CellTexts.{text-read}
use Rattle.aes3_cell.proofs.laws.text_reads_back.Goals as goal

pub returns : goal.returns
returns c = text-read
