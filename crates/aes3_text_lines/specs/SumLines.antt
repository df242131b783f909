-- The line of a sum: what was counted of the cells of a period of a line that is watched. Numbers are decimal.
use Rattle.std.specs.Prelude.{ℕ, List, [], ◌∷◌, ◌++◌, codes, decimal}
use Rattle.aes3_status.specs.declared.style.Notation.{Notation}
use Rattle.aes3_status.specs.declared.style.Style.{Style}
use Rattle.aes3_text_lines.specs.declared.sum.Figures.{Figures}
use Rattle.aes3_text_lines.specs.declared.sum.Sum.{Sum}
use Rattle.aes3_text_lines.specs.Events.{closing, number_field, opening, time_field}

-- which cells the period has: its first, with the time where the rate is known, and the one behind its last
unfoldable pub period_fields : Style → ℕ → ℕ → List ℕ
period_fields style from to =
    number_field style.notation (codes "from") (decimal from) ++ time_field style.notation style.rate from
    ++ number_field style.notation (codes "to") (decimal to)

-- the reports of the period by their kinds, faults by their causes
unfoldable pub report_fields : Notation → Figures → List ℕ
report_fields n f =
    number_field n (codes "whole") (decimal f.whole) ++ number_field n (codes "marked") (decimal f.marked)
    ++ number_field n (codes "fault") (decimal f.fault) ++ number_field n (codes "preamble") (decimal f.preamble)
    ++ number_field n (codes "biphase") (decimal f.biphase) ++ number_field n (codes "unclosed") (decimal f.unclosed)

-- the cells that were lost, and what the whole blocks say of their samples
unfoldable pub sample_fields : Notation → Figures → List ℕ
sample_fields n f =
    number_field n (codes "lost") (decimal f.lost) ++ number_field n (codes "invalid1") (decimal f.invalid_first)
    ++ number_field n (codes "invalid2") (decimal f.invalid_second)
    ++ number_field n (codes "changes") (decimal f.changes)

-- the line of a sum
unfoldable pub sum_line : Style → Sum → List ℕ
sum_line style sum =
    opening style.notation (codes "sum") ++ period_fields style sum.from sum.to
    ++ report_fields style.notation sum.figures ++ sample_fields style.notation sum.figures
    ++ closing style.notation ++ 10 ∷ []
