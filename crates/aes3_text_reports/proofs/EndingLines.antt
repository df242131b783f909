-- The line of an ending.
use Rattle.std.proofs.Common.{◌≡◌, Bool, List, [], refl}
use Rattle.aes3_lock.specs.declared.report.Ending.{Ending}
use Rattle.aes3_lock.specs.declared.report.Ending.TheVariants.{Whole, Marked, Fault, Unfinished}
use Rattle.aes3_lock.specs.Reports.{ending_report}
use Rattle.aes3_status.specs.declared.lines.Lines.{Lines}
use Rattle.aes3_status.specs.declared.lines.Lines.TheVariants.{All, Faults}
use Rattle.aes3_text_reports.specs.Lines.{told_line}

-- the line of an ending has none of its block's bits
pub ending-told : (l : Lines) (e : Ending) (slots : List (List Bool))
    → told_line l (ending_report [] e) ≡ told_line l (ending_report slots e)
ending-told All (Whole at s) slots = refl
ending-told All (Marked at s wrong) slots = refl
ending-told All (Fault at cell why) slots = refl
ending-told All (Unfinished at cells) slots = refl
ending-told Faults (Whole at s) slots = refl
ending-told Faults (Marked at s wrong) slots = refl
ending-told Faults (Fault at cell why) slots = refl
ending-told Faults (Unfinished at cells) slots = refl
