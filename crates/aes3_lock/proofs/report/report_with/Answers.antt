use Rattle.std.proofs.Common.{sym, ap, ◌∙◌}
use Rattle.aes3_slot.specs.ReadWords.{read_words}
use Rattle.aes3_lock.specs.declared.report.Report.TheVariants.{Whole}
use Rattle.aes3_lock.specs.Reports.{ending_report}
use Rattle.aes3_lock.proofs.report.report_with.Goals as goal

pub returns-in-Whole : goal.returns-in-Whole
returns-in-Whole c =
    ap (Whole c.in-Whole.at c.in-Whole.before) c.block.ensures
    ∙ sym (ap (ending_report (read_words c.args.words.now)) c.in-Whole.is)
