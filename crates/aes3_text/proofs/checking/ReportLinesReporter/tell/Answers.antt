use Rattle.std.proofs.Common.{[], ◌∙◌}
use Rattle.aes3_slot.specs.ReadWords.{read_words}
use Rattle.aes3_cell.proofs.Writing.{wrote-is}
use Rattle.aes3_lock.specs.Following.{report_in}
use Rattle.aes3_lock_runs.proofs.ReportLemmas.{adds-is}
use Rattle.aes3_text_reports.specs.Lines.{told_line}
use Rattle.aes3_text_reports.proofs.EndingLines.{ending-told}
use Rattle.aes3_text.proofs.checking.ReportLinesReporter.tell.Goals as goal

pub returns-clause-wrote : goal.returns-clause-wrote
returns-clause-wrote g c = λ r n h.
    let l = c.args.self.now.lines in
    wrote-is (ending-told l c.args.ending (read_words c.args._lock.now.words)
    ∙ adds-is (λ _. told_line l) [] c.args._blocks r (report_in c.args._lock.now c.args.ending) n)
    c.tell_ending.ensures
