use Rattle.std.proofs.Common.{ap, ◌∙◌, sym, rules}
use Rattle.aes3_cell.specs.declared.form.Form.{Form}
use Rattle.aes3_level.specs.Words.{word_cells}
use Rattle.aes3_cell.specs.Written.{bytes_of}
use Rattle.aes3_cell.proofs.Lines.{text_of-line}
use Rattle.aes3_level.proofs.WordCells.{length-word_cells}
use Rattle.aes3_cell.proofs.Writing.{wrote-is}
use Rattle.aes3_cell.proofs.word.put_word.Goals as goal

pub returns-in-Text : goal.returns-in-Text
returns-in-Text g c =
    let line = c.line_of_word.ensures ∙ sym (text_of-line (word_cells c.args.word) (length-word_cells c.args.word)) in
    wrote-is (line ∙ ap (λ (f : Form). bytes_of f (word_cells c.args.word)) (sym c.in-Text.is)) c.write_all.ensures

pub returns-in-Packed : goal.returns-in-Packed
returns-in-Packed g c = search rules
