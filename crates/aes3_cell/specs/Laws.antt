-- The laws of the written forms of cells.
use Rattle.std.specs.Prelude.{ℕ, List, [], ◌∷◌, ◌++◌, Option, Some, None, Result, Ok, Err, length, ◌≡◌, ◌%◌, ◌<◌}
use Rattle.std.specs.Prelude.{IsTrue}
use Rattle.aes3_level.specs.declared.level.Level.{Level}
use Rattle.aes3_level.specs.Words.{word_len}
use Rattle.aes3_cell.specs.Text.{text_of}
use Rattle.aes3_cell.specs.declared.cell_text.BadCell.{BadCell}
use Rattle.aes3_cell.specs.CellText.{IsCellText, cells_of_text, good}
use Rattle.aes3_cell.specs.PackedFeeding.{cells_fed, octets_fed}
use Rattle.aes3_cell.specs.PackedPending.{octets_added}
use Rattle.aes3_cell.specs.PackedReading.{packed_reader_of, packed_end, end_cells}
use Rattle.aes3_cell.specs.Pending.{text_added, begun_after}
use Rattle.aes3_cell.specs.TextReading.{TextReader, text_reader_of, text_answer, text_next}
use Rattle.aes3_cell.specs.Packed.{Packs, is_packed, cells_of_packed, packed_of}

-- whole lines of cells written as text and read again are the same
abbrev pub TextReadsBack : Type 0
TextReadsBack = (c : List Level) → length c % word_len ≡ 0 → IsCellText (text_of c) × (cells_of_text (text_of c) ≡ c)

-- cells packed and read again are the same
abbrev pub PackedReadsBack : Type 0
PackedReadsBack = (c : List Level)
    → Packs (packed_of c) c × IsTrue (is_packed (packed_of c)) × (cells_of_packed (packed_of c) ≡ c)

-- the test of packed cells finds those that pack some cells, and these are the ones that are read
abbrev pub PackedIsTested : Type 0
PackedIsTested = (octets : List ℕ) → (IsTrue (is_packed octets) → Packs octets (cells_of_packed octets))
    × ((c : List Level) → Packs octets c → IsTrue (is_packed octets) × (cells_of_packed octets ≡ c))

-- the cells that a reader of text answers to bytes before the first that it refuses, and that refusal
abbrev pub cells_answered : Result (Option Level) BadCell → List Level → List Level
cells_answered (Ok (Some level)) cells = level ∷ cells
cells_answered (Ok None) cells = cells
cells_answered (Err fault) cells = []

abbrev pub text_cells_fed : TextReader → List ℕ → List Level
text_cells_fed reader [] = []
text_cells_fed reader (byte ∷ bytes) =
    cells_answered (text_answer reader byte) (text_cells_fed (text_next reader byte) bytes)

abbrev pub refusal_answered : Result (Option Level) BadCell → Option BadCell → Option BadCell
refusal_answered (Ok cell) later = later
refusal_answered (Err fault) later = Some fault

abbrev pub text_refusal : TextReader → List ℕ → Option BadCell
text_refusal reader [] = None
text_refusal reader (byte ∷ bytes) =
    refusal_answered (text_answer reader byte) (text_refusal (text_next reader byte) bytes)

-- a new reader answers the cells of the bytes that it is fed, and refuses the first bad one with its place
abbrev pub TextReaderAnswersCells : Type 0
TextReaderAnswersCells = (bytes : List ℕ) → (text_cells_fed (text_reader_of []) bytes ≡ cells_of_text bytes)
    × (IsCellText bytes → text_refusal (text_reader_of []) bytes ≡ None)
    × (good bytes < length bytes → text_refusal (text_reader_of []) bytes ≡ Some (record { at = good bytes }))

-- a new reader answers the cells of the packed octets that it is fed, the last of them at the end
abbrev pub PackedReaderAnswersCells : Type 0
PackedReaderAnswersCells = (octets : List ℕ) → IsTrue (is_packed octets)
    → cells_fed (packed_reader_of []) octets ++ end_cells (packed_end (octets_fed (packed_reader_of []) octets))
    ≡ cells_of_packed octets

-- what writers of text and of packed cells hand on for cells behind those begun, and the cells that are then begun
abbrev pub text_put : List Level → List Level → List ℕ
text_put begun [] = []
text_put begun (level ∷ cells) = text_added begun level ++ text_put (begun_after begun level) cells

abbrev pub octets_put : List Level → List Level → List ℕ
octets_put begun [] = []
octets_put begun (level ∷ cells) = octets_added begun level ++ octets_put (begun_after begun level) cells

abbrev pub begun_put : List Level → List Level → List Level
begun_put begun [] = begun
begun_put begun (level ∷ cells) = begun_put (begun_after begun level) cells

-- put cell by cell, cells are written as they should be: packed, with the end behind them
abbrev pub WritersWriteCells : Type 0
WritersWriteCells = (c : List Level)
    → (text_put [] c ≡ text_of c) × (octets_put [] c ++ packed_of (begun_put [] c) ≡ packed_of c)
