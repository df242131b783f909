-- What a lock takes of many cells.
use Rattle.std.specs.Prelude.{List, ◌≡◌, ◌≢◌, ◌<◌, ◌+◌, ◌-◌, ◌++◌, Option, None, length, option_map, option_to_list, take}
use Rattle.aes3_level.specs.declared.level.Level.{Level}
use Rattle.aes3_lock.specs.declared.report.Ending.{Ending}
use Rattle.aes3_lock.specs.Following.{Follows, HeldBlock, LockState, report_in}
use Rattle.aes3_lock.specs.Reports.{decided}

-- Of the cells `line` a lock took the first, so that `rest` is left. It follows them. They decide a report, the last of
-- them, or none. It holds the block of that report, if it is of one.
pub record TookCells (old new : LockState) (line rest : List Level) (ending : Option Ending) : Type 0 where
  pub front : List Level
  pub parts : line ≡ front ++ rest
  pub some : (ending ≢ None) → 0 < length front
  pub seen : new.seen ≡ old.seen + length front
  pub follows : (cells : List Level) → Follows old cells → Follows new (cells ++ front)
  pub report : (cells : List Level) → Follows old cells
      → decided (cells ++ front) ≡ decided cells ++ option_to_list (option_map (report_in new) ending)
  pub last : (ending ≢ None) → (cells : List Level) → Follows old cells
      → decided (cells ++ take (length front - 1) front) ≡ decided cells
  pub held : (cells : List Level) → Follows old cells → HeldBlock new.words (cells ++ front) ending
