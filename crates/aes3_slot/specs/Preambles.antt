-- Preambles where cells begin, and in a word of cells.
use Rattle.std.specs.Prelude.{ℕ, List, [], ◌∷◌, ◌++◌, Bool, true, false, ◌&&◌, ◌||◌, ◌≡◌, ◌+◌, ◌*◌, ◌^◌, ◌<◌, length}
use Rattle.std.specs.Prelude.{take, drop, get_or, if◌then◌else◌}
use Rattle.std.specs.Int.{bit_at}
use Rattle.std.specs.List.{flat_map}
use Rattle.aes3_level.specs.declared.level.Level.{Level}
use Rattle.aes3_level.specs.Cells.{line, other}
use Rattle.aes3_level.specs.Words.{low_cells, word_cells}
use Rattle.aes3_slot.specs.declared.mark.Mark.{Mark}
use Rattle.aes3_slot.specs.declared.mark.Mark.TheVariants.{X, Y, Z}
use Rattle.aes3_slot.specs.Slots.{mark_runs}
use Rattle.aes3_slot.specs.Rules.{at}
use Rattle.aes3_slot.specs.Reading.{same, differs}

abbrev pub same_cells : List Level → List Level → Bool
same_cells [] [] = true
same_cells [] (b ∷ d) = false
same_cells (a ∷ c) [] = false
same_cells (a ∷ c) (b ∷ d) = same a b && same_cells c d

-- the level before cells that begin a preamble: each preamble begins with a change
abbrev pub entry : List Level → Level
entry c = other (at c 0)

-- whether a preamble stands at the start, in either polarity
unfoldable pub begins_with : Mark → List Level → Bool
begins_with mark c = same_cells (take 8 c) (line (entry c) (mark_runs mark))

unfoldable pub begins_with_any : List Level → Bool
begins_with_any c = begins_with X c || (begins_with Y c || begins_with Z c)

-- whether cell k differs from the cell so far behind it
abbrev pub unlike_at : List Level → ℕ → ℕ → Bool
unlike_at c k distance = differs (at c k) (at c (k + distance))

-- the cells of words one behind the other, and seven behind them
abbrev pub words_with_seven : List ℕ → ℕ → List Level
words_with_seven words next = flat_map word_cells words ++ low_cells 7 next

-- the 64 cells of a word and seven behind them, as many as a preamble needs that begins with the last
unfoldable pub with_seven : ℕ → ℕ → List Level
with_seven word next = word_cells word ++ low_cells 7 next

-- bit k of number i of eight says whether
pub record InLanes (lanes : List ℕ) (test : ℕ → ℕ → Bool) : Type 0 where
  pub count : length lanes ≡ 8
  pub fit : (i : ℕ) → i < 8 → get_or lanes i 0 < 2 ^ 64
  pub bits : (i k : ℕ) → i < 8 → k < 64 → bit_at (get_or lanes i 0) k ≡ (if test i k then 1 else 0)

-- where the preambles of blocks begin in the first words is told
abbrev pub MarksAreTold : List ℕ → ℕ → List ℕ → ℕ → Type 0
MarksAreTold words next out n =
    (i k : ℕ) → i < n → k < 64
    → bit_at (get_or out i 0) k ≡ (if begins_with Z (drop (64 * i + k) (words_with_seven words next)) then 1 else 0)
