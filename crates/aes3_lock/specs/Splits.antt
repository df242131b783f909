-- Cells cut in two: their reports from those of a front and of the rest.
use Rattle.std.specs.Prelude.{ℕ, List, ◌++◌, Bool, ◌≡◌, ◌≤◌, ◌+◌, nat_lt, take, drop, map}
use Rattle.std.specs.List.{filter}
use Rattle.aes3_level.specs.declared.level.Level.{Level}
use Rattle.aes3_frame.specs.Blocks.{block_len}
use Rattle.aes3_lock.specs.declared.report.Report.{Report}
use Rattle.aes3_lock.specs.declared.report.Report.TheVariants.{Whole, Marked, Fault, Unfinished}
use Rattle.aes3_lock.specs.Reports.{reports}
use Rattle.aes3_lock.specs.Remains.{place_of}

-- whether a report is of a place before place n
abbrev pub begins_before : ℕ → Report → Bool
begins_before n r = nat_lt (place_of r) n

-- a report on cells that stand behind n others, as it counts those too
abbrev pub behind : ℕ → Report → Report
behind n (Whole at s b) = Whole (n + at) s b
behind n (Marked at s wrong) = Marked (n + at) s wrong
behind n (Fault at cell why) = Fault (n + at) (n + cell) why
behind n (Unfinished at cells) = Unfinished (n + at) cells

-- the reports of cells are those of their first n cells and a block's number more, as far as they begin in the n, and
-- those of the cells behind the n
abbrev pub ReportsJoin : Type 0
ReportsJoin =
    (n more : ℕ) (c : List Level) → block_len ≤ more
    → reports c ≡ filter (begins_before n) (reports (take (n + more) c)) ++ map (behind n) (reports (drop n c))
