-- Cells in a number, the earliest in the lowest bit.
use Rattle.std.specs.Prelude.{ℕ, zero, suc, List, [], ◌∷◌, ◌%◌, ◌/◌, ◌==◌, cond, drop, take}
use Rattle.std.specs.List.{flat_map}
use Rattle.aes3_level.specs.declared.level.Level.{Level}
use Rattle.aes3_level.specs.declared.level.Level.TheVariants.{Low, High}

-- the level that a bit stands for, and the bit of a level
abbrev pub level_of : ℕ → Level
level_of bit = cond (bit == 0) Low High

abbrev pub bit_of : Level → ℕ
bit_of Low = 0
bit_of High = 1

-- the cells in the lowest n bits
abbrev pub low_cells : ℕ → ℕ → List Level
low_cells zero word = []
low_cells (suc n) word = level_of (word % 2) ∷ low_cells n (word / 2)

-- how many cells a word and a line of text have
unfoldable pub word_len : ℕ
word_len = 64

-- the 64 cells of a word
unfoldable pub word_cells : ℕ → List Level
word_cells word = low_cells word_len word

-- `n` cells of words from cell `first` on
abbrev pub cells_in : List ℕ → ℕ → ℕ → List Level
cells_in words first n = take n (drop first (flat_map word_cells words))
