use Rattle.std.proofs.Common.{[], ◌++◌, ap, ◌∙◌, sym}
use Rattle.aes3_cell.specs.Laws.{text_cells_fed}
use Rattle.aes3_cell.specs.TextReading.{text_reader_of}
use Rattle.aes3_cell.proofs.FedLists.{fed-text, no-text, no-cells}
use Rattle.aes3_cell.proofs.laws.text_fed_by_bytes.Goals as goal

pub returns : goal.returns
returns c = λ bytes.
    let f = fed-text [] bytes no-text in
    (ap (λ d. d ++ text_cells_fed (text_reader_of []) bytes) (sym no-cells) ∙ sym f.cells, f.none, f.some)
