use Rattle.std.proofs.Common.{sym, ◌∙◌}
use Rattle.aes3_cell.proofs.CellTexts.{answer-ok}
use Rattle.aes3_cell.proofs.TextReads.{read-byte}
use Rattle.aes3_cell.proofs.cell_text.with_byte.Goals as goal

pub with_cell_of-requires-clause-good : goal.with_cell_of-requires-clause-good
with_cell_of-requires-clause-good c
    = (answer-ok c.args.text.now c.args.byte c.in_ok-feed_byte.field-0
    (sym c.in_ok-feed_byte.was ∙ c.feed_byte.ensures.answer)).0

pub returns-clause-read : goal.returns-clause-read
returns-clause-read c =
    read-byte c.args.text.now c.feed_byte.new.self c.args.byte c.in_ok-feed_byte.field-0
    (sym c.in_ok-feed_byte.was ∙ c.feed_byte.ensures.answer) c.feed_byte.ensures.next
