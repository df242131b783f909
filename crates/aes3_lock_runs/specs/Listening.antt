-- What a listener hears of cells that go through a lock.
use Rattle.std.specs.Prelude.{ℕ, List, ◌++◌, Option, length, ◌≡◌, option_map, option_to_list}
use Rattle.aes3_level.specs.declared.level.Level.{Level}
use Rattle.aes3_lock.specs.declared.report.Ending.{Ending}
use Rattle.aes3_lock.specs.declared.report.Report.{Report}
use Rattle.aes3_lock.specs.Following.{Follows, HeldBlock, LockState, report_in}
use Rattle.aes3_lock.specs.Reports.{decided, reports, wholes}

-- the report of an ending that a lock answers, if any
abbrev pub reports_in : LockState → Option Ending → List Report
reports_in k e = option_to_list (option_map (report_in k) e)

-- A lock k has taken the cells c, with n whole blocks, and then d. These decide the report of this ending, or none.
-- The lock holds the block of that report, if it is of one.
pub record Heard (k : LockState) (n : ℕ) (ending : Option Ending) (c d : List Level) : Type 0 where
  pub follows : Follows k (c ++ d)
  pub told : decided (c ++ d) ≡ decided c ++ reports_in k ending
  pub held : HeldBlock k.words (c ++ d) ending
  pub blocks : n ≡ length (wholes (decided c))

-- and the same of the end of the cells c
pub record HeardEnd (k : LockState) (n : ℕ) (ending : Option Ending) (c : List Level) : Type 0 where
  pub follows : Follows k c
  pub told : reports c ≡ decided c ++ reports_in k ending
  pub held : HeldBlock k.words c ending
  pub blocks : n ≡ length (wholes (decided c))
