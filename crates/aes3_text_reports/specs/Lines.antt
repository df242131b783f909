-- The lines of reports. Numbers are decimal.
use Rattle.std.specs.Prelude.{ℕ, List, [], ◌∷◌, ◌++◌, codes, decimal}
use Rattle.std.specs.List.{flat_map}
use Rattle.aes3_lock.specs.declared.report.Report.{Report}
use Rattle.aes3_lock.specs.declared.report.Report.TheVariants.{Whole, Marked, Fault, Unfinished}
use Rattle.aes3_lock.specs.declared.report.Why.{Why}
use Rattle.aes3_lock.specs.declared.report.Why.TheVariants.{Preamble, Biphase, Unclosed}
use Rattle.aes3_status.specs.declared.lines.Lines.{Lines}
use Rattle.aes3_status.specs.declared.lines.Lines.TheVariants.{All, Faults}
use Rattle.aes3_text_lines.specs.MarkLines.{level_digit}

abbrev pub reason_word : Why → List ℕ
reason_word Preamble = codes "preamble"
reason_word Biphase = codes "biphase"
reason_word Unclosed = codes "unclosed"

-- the line of a report without its line feed
abbrev pub report_text : Report → List ℕ
report_text (Whole at before block) = codes "whole at " ++ decimal at ++ codes " before " ++ level_digit before
report_text (Marked at before wrong) =
    codes "marked at " ++ decimal at ++ codes " before " ++ level_digit before ++ codes " wrong " ++ decimal wrong
report_text (Fault at cell why) =
    codes "fault at " ++ decimal at ++ codes " cell " ++ decimal cell ++ codes " " ++ reason_word why
report_text (Unfinished at cells) = codes "unfinished at " ++ decimal at ++ codes " cells " ++ decimal cells

abbrev pub report_line : Report → List ℕ
report_line report = report_text report ++ 10 ∷ []

-- the line that a report gets, if it gets one
abbrev pub told_line : Lines → Report → List ℕ
told_line All x = report_line x
told_line Faults (Whole at before block) = []
told_line Faults (Marked at before wrong) = report_line (Marked at before wrong)
told_line Faults (Fault at cell why) = report_line (Fault at cell why)
told_line Faults (Unfinished at cells) = report_line (Unfinished at cells)

-- the lines of reports
abbrev pub report_lines : Lines → List Report → List ℕ
report_lines lines r = flat_map (told_line lines) r
