-- Cell text as it is written: lines of 64 cells.
use Rattle.std.specs.Prelude.{◌≡◌, ℕ, zero, suc, List, [], ◌∷◌, ◌++◌, ◌/◌, map, take, drop, length}
use Rattle.aes3_level.specs.declared.level.Level.{Level}
use Rattle.aes3_level.specs.declared.level.Level.TheVariants.{Low, High}
use Rattle.aes3_level.specs.Words.{word_len}

-- `0` and `1`
abbrev pub byte_of : Level → ℕ
byte_of Low = 48
byte_of High = 49

-- the character of a cell
abbrev pub IsCellByte : ℕ → Type 0
IsCellByte byte = (level : Level) × (byte ≡ byte_of level)

-- cells and a line feed
abbrev pub line_text : List Level → List ℕ
line_text cells = map byte_of cells ++ 10 ∷ []

-- the first n lines of 64 cells
abbrev pub lines_text : ℕ → List Level → List ℕ
lines_text zero c = []
lines_text (suc n) c = line_text (take word_len c) ++ lines_text n (drop word_len c)

-- the text of cells, line by line; cells behind the last whole line are not written
unfoldable pub text_of : List Level → List ℕ
text_of c = lines_text (length c / word_len) c
