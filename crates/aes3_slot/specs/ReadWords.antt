-- The bits that words of 64 cells carry, each the cells of a subframe.
use Rattle.std.specs.Prelude.{ℕ, List, Bool, drop, map}
use Rattle.aes3_level.specs.Words.{word_cells}
use Rattle.aes3_slot.specs.Reading.{read_bits}

-- the bits of the slots behind its preamble
abbrev pub read_word : ℕ → List Bool
read_word word = read_bits (drop 8 (word_cells word))

abbrev pub read_words : List ℕ → List (List Bool)
read_words words = map read_word words
