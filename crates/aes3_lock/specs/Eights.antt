-- Eight words of cells at once, and the subframes that they make whole.
use Rattle.std.specs.Prelude.{ℕ, zero, suc, List, ◌-◌, get_or, drop}
use Rattle.aes3_level.specs.declared.level.Level.{Level}
use Rattle.aes3_level.specs.Words.{low_cells, word_cells}

-- the first cells of a subframe that are known before word i of words: those begun before the first, or the last of the
-- word before
abbrev pub begun_before : ℕ → ℕ → List ℕ → ℕ → List Level
begun_before len begun words zero = low_cells len begun
begun_before len begun words (suc i) = drop (64 - len) (word_cells (get_or words i 0))
