-- The line of cell text that is begun.
use Rattle.std.specs.Prelude.{ℕ, suc, List, [], ◌∷◌, ◌++◌, Bool, length, drop, ◌*◌, ◌/◌, ◌==◌, if◌then◌else◌}
use Rattle.aes3_level.specs.declared.level.Level.{Level}
use Rattle.aes3_level.specs.Words.{word_len}
use Rattle.aes3_cell.specs.Text.{line_text}

-- the cells of a line that is not yet whole, and whether writing has failed
pub record BegunLine : Type 0 where
  pub cells : List Level
  pub failed : Bool

-- the text that one more cell completes, and the cells that are then begun
abbrev pub text_added : List Level → Level → List ℕ
text_added cells l = if suc (length cells) == word_len then line_text (cells ++ l ∷ []) else []

abbrev pub begun_after : List Level → Level → List Level
begun_after cells l = if suc (length cells) == word_len then [] else cells ++ l ∷ []

-- the cells behind the last whole line
unfoldable pub begun_cells : List Level → List Level
begun_cells c = drop (word_len * (length c / word_len)) c
