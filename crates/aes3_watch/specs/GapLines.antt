-- The lines of gaps and of an account. Numbers are decimal.
use Rattle.std.specs.Prelude.{ℕ, List, [], ◌∷◌, ◌++◌, codes, decimal}
use Rattle.std.specs.List.{flat_map}
use Rattle.aes3_status.specs.declared.lines.Lines.{Lines}
use Rattle.aes3_text_reports.specs.Lines.{told_line}
use Rattle.aes3_lock_gaps.specs.Gaps.{Entry, reported, lost, cut}

-- the line of a gap of some cells from cell `at` on
abbrev pub gap_line : ℕ → ℕ → List ℕ
gap_line at cells = codes "gap at " ++ decimal at ++ codes " cells " ++ decimal cells ++ 10 ∷ []

-- the line of an entry of an account
abbrev pub entry_line : Lines → Entry → List ℕ
entry_line lines (reported x) = told_line lines x
entry_line lines (lost at cells) = gap_line at cells
entry_line lines (cut at cells) = gap_line at cells

-- the lines of an account
abbrev pub account_lines : Lines → List Entry → List ℕ
account_lines lines e = flat_map (entry_line lines) e
