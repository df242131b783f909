use Rattle.std.proofs.Common.{sym, ap, ◌∙◌, arith}
use Rattle.aes3_slot.specs.ReadWords.{read_words}
use Rattle.aes3_lock.specs.Reports.{report_of}
use Rattle.aes3_lock.proofs.Codes.{left-block, left-early}
use Rattle.aes3_lock.proofs.candidate.Candidate.cut_after.Goals as goal

pub returns-then-cells-ge-BLOCK_CELLS : goal.returns-then-cells-ge-BLOCK_CELLS
returns-then-cells-ge-BLOCK_CELLS c =
    c.closed.ensures
    ∙ ap (report_of c.args.self.at)
    (sym (left-block c.args.self.before c.args.cells (read_words c.args.words.now) (omega arith)))

pub returns-else-cells-ge-BLOCK_CELLS : goal.returns-else-cells-ge-BLOCK_CELLS
returns-else-cells-ge-BLOCK_CELLS c =
    ap (report_of c.args.self.at)
    (sym (left-early c.args.self.before c.args.cells (read_words c.args.words.now) (omega arith)))
