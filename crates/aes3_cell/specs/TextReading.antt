-- Cell text read byte by byte.
use Rattle.std.specs.Prelude.{ℕ, List, length, Option, Some, None, Result, Ok, Err, ◌≡◌, ◌+◌}
use Rattle.aes3_level.specs.declared.level.Level.{Level}
use Rattle.aes3_cell.specs.declared.cell_text.BadCell.{BadCell}
use Rattle.aes3_cell.specs.CellText.{Kind, cell, separator, bad, kind_of, cells_of_text, IsCellText}

-- how many bytes a reader has taken
pub record TextReader : Type 0 where
  pub seen : ℕ

-- the reader that has taken these bytes, none of which it refused
unfoldable pub text_reader_of : List ℕ → TextReader
text_reader_of bytes = record { seen = length bytes }

-- what a reader answers to one more byte: its cell, nothing for a separator, else the byte's place
abbrev pub kind_answer : TextReader → Kind → Result (Option Level) BadCell
kind_answer reader (cell level) = Ok (Some level)
kind_answer reader separator = Ok None
kind_answer reader bad = Err (record { at = reader.seen })

abbrev pub text_answer : TextReader → ℕ → Result (Option Level) BadCell
text_answer reader byte = kind_answer reader (kind_of byte)

-- the reader behind one more byte: a bad one isn't taken
abbrev pub kind_next : TextReader → Kind → TextReader
kind_next reader (cell level) = record { seen = reader.seen + 1 }
kind_next reader separator = record { seen = reader.seen + 1 }
kind_next reader bad = reader

abbrev pub text_next : TextReader → ℕ → TextReader
text_next reader byte = kind_next reader (kind_of byte)

-- a reader of text took the bytes d, which are the cells c and separators
pub record TextRead (old new : TextReader) (d : List ℕ) (c : List Level) : Type 0 where
  pub lawful : IsCellText d
  pub cells : cells_of_text d ≡ c
  pub seen : new.seen ≡ old.seen + length d
