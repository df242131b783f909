-- Cells of words that are still to be taken.
use Rattle.std.specs.Prelude.{List, ◌++◌}
use Rattle.aes3_level.specs.declared.level.Level.{Level}

-- here: those of the word that was begun
-- next: those of the words after it
pub record Remaining : Type 0 where
  pub here : List Level
  pub next : List Level

-- all of them
abbrev pub all_of : Remaining → List Level
all_of cells = cells.here ++ cells.next
