-- The lines of reports, one behind the other.
use Rattle.std.proofs.Common.{◌≡◌, ℕ, ◌+◌, List, [], ◌∷◌, ◌++◌, length, refl, ap, ◌∙◌, append-nil}
use Rattle.aes3_level.specs.declared.level.Level.{Level}
use Rattle.aes3_lock.specs.declared.report.Report.{Report}
use Rattle.aes3_lock.specs.Reports.{reports, decided, wholes}
use Rattle.aes3_lock_runs.specs.ReportRuns.{output_from, output}
use Rattle.aes3_status.specs.declared.lines.Lines.{Lines}
use Rattle.aes3_text_reports.specs.Lines.{told_line, report_lines}

lines-from : (l : Lines) (n : ℕ) (r : List Report) → output_from (λ m. told_line l) n r ≡ report_lines l r
lines-from l n [] = refl
lines-from l n (x ∷ r) = ap (λ z. told_line l x ++ z) (lines-from l (n + length (wholes (x ∷ []))) r)

pub check-whole : (l : Lines) (c : List Level)
    → output (λ m. told_line l) (reports c) ++ [] ≡ report_lines l (reports c)
check-whole l c = append-nil (output (λ m. told_line l) (reports c)) ∙ lines-from l 0 (reports c)

pub check-begun : (l : Lines) (c : List Level) → output (λ m. told_line l) (decided c) ≡ report_lines l (decided c)
check-begun l c = lines-from l 0 (decided c)
