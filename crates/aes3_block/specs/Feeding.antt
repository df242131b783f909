-- Bytes fed to a reader one behind the other.
use Rattle.std.specs.Prelude.{ℕ, List, [], ◌∷◌, ◌++◌, Bool, Option, Some, None, Result, Ok, Err}
use Rattle.aes3_block.specs.declared.file.FileFault.{FileFault}
use Rattle.aes3_block.specs.Readers.{FileReader, answer_with, next_with}

-- the block in an answer
abbrev pub blocks_of_answer : Result (Option (List (List Bool))) FileFault → List (List (List Bool))
blocks_of_answer (Ok (Some b)) = b ∷ []
blocks_of_answer (Ok None) = []
blocks_of_answer (Err f) = []

-- the blocks that a reader answers to bytes
abbrev pub blocks_fed : FileReader → List ℕ → List (List (List Bool))
blocks_fed r [] = []
blocks_fed r (x ∷ bytes) = blocks_of_answer (answer_with r x) ++ blocks_fed (next_with r x) bytes

-- the reader behind them
abbrev pub reader_fed : FileReader → List ℕ → FileReader
reader_fed r [] = r
reader_fed r (x ∷ bytes) = reader_fed (next_with r x) bytes
