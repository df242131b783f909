-- Laws on how near candidates are to one another, and how many reports some cells decide.
use Rattle.std.specs.Prelude.{ℕ, List, length, ◌<◌, ◌≤◌, ◌+◌, ◌++◌}
use Rattle.aes3_level.specs.declared.level.Level.{Level}
use Rattle.aes3_slot.specs.declared.mark.Mark.TheVariants.{Z}
use Rattle.aes3_slot.specs.Rules.{StandsMark}
use Rattle.aes3_lock.specs.Reports.{decided}

-- two preambles of blocks in one list are at least five cells apart, whatever their levels
abbrev pub CandidatesApart : Type 0
CandidatesApart = (s t : Level) (c : List Level) (p q : ℕ) → p < q → StandsMark Z s c p → StandsMark Z t c q → p + 5 ≤ q

-- so the cells of a word decide fourteen reports at most, whatever cells came before them
abbrev pub FewDecided : Type 0
FewDecided = (c d : List Level) → length d ≤ 64 → length (decided (c ++ d)) ≤ length (decided c) + 14
