-- A line by its turns: whether each cell differs from the one before it.
use Rattle.std.specs.Prelude.{ℕ, List, [], ◌∷◌, ◌++◌, ◌-◌, Bool, true, false, replicate}
use Rattle.aes3_level.specs.declared.level.Level.{Level}
use Rattle.aes3_level.specs.Cells.{other}
use Rattle.aes3_level.specs.Words.{word_len}
use Rattle.aes3_bits.specs.Bits.{low_bits}

-- s where b is false, the other level where it is true
abbrev pub turned : Bool → Level → Level
turned false s = s
turned true s = other s

-- the cells with these turns, after a cell of level s
abbrev pub cells_of_turns : Level → List Bool → List Level
cells_of_turns s [] = []
cells_of_turns s (b ∷ turns) = turned b s ∷ cells_of_turns (turned b s) turns

-- runs turn at their first cells
abbrev pub run_turns : List ℕ → List Bool
run_turns [] = []
run_turns (n ∷ runs) = true ∷ replicate (n - 1) false ++ run_turns runs

-- the 64 turns of a word
abbrev pub word_turns : ℕ → List Bool
word_turns word = low_bits word_len word
