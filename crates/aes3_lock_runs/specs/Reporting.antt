-- What a taker writes that looks at the reports on its cells.
use Rattle.std.specs.Prelude.{List, [], ◌∷◌, ◌++◌, length, drop}
use Rattle.aes3_level.specs.declared.level.Level.{Level}
use Rattle.aes3_lock.specs.declared.report.Report.{Report}
use Rattle.aes3_lock.specs.Reports.{decided, reports}
use Rattle.aes3_input.specs.Taking.{Writing, behind}

-- the reports that one more cell decides, and those that the end decides
abbrev pub decided_by : List Level → Level → List Report
decided_by c l = drop (length (decided c)) (decided (c ++ l ∷ []))

abbrev pub decided_at_end : List Level → List Report
decided_at_end c = drop (length (decided c)) (reports c)

-- what cells write through their reports
unfoldable pub reporting : Writing Report → Writing Level
reporting w = record {
  adds = λ c l. behind w (decided c) (decided_by c l);
  ends = λ c. behind w (decided c) (decided_at_end c) ++ w.ends (reports c);
}
