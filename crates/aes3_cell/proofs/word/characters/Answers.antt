use Rattle.std.proofs.Common.{◌∙◌, ap}
use Rattle.aes3_cell.proofs.Lines.{lanes_text, word-text}
use Rattle.aes3_cell.proofs.word.characters.Goals as goal

pub returns : goal.returns
returns c = ap lanes_text c.to_le_bytes.ensures ∙ word-text c.args.word
