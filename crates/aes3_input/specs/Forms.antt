-- What the two forms of cells make of an input's bytes.
use Rattle.std.specs.Prelude.{ℕ, List, ◌++◌, Some, None, Result, Ok, Err, ◌≡◌, ◌+◌, ◌<◌, length, take}
use Rattle.std.specs.Prelude.{if◌then◌else◌}
use Rattle.aes3_level.specs.declared.level.Level.{Level}
use Rattle.aes3_refusals.specs.declared.run_error.RunError.TheVariants.{BadCell, BadPadding}
use Rattle.aes3_cell.specs.declared.ends.Fault.{Fault}
use Rattle.aes3_cell.specs.Ends.{Grew, GrewFront}
use Rattle.aes3_cell.specs.Packed.{octet_cells, is_packed, last_place, cells_of_packed, whole_cells}
use Rattle.aes3_cell.specs.PackedReading.{PackedReader, packed_reader_of, packed_answer, packed_end, answer_cells}
use Rattle.aes3_cell.specs.PackedReading.{end_cells}
use Rattle.aes3_cell.specs.CellText.{is_good_byte, byte_cells, cells_of_text, IsCellText}
use Rattle.aes3_cell.specs.TextReading.{TextReader, text_reader_of}
use Rattle.aes3_input.specs.Converting.{Reading}
use Rattle.aes3_input.specs.Running.{InputState, Movement, Quiet, Failed}
use Rattle.aes3_input.specs.Taking.{TakerState, Writing, behind}

-- cell text: a bad byte is a fault, the cell of any other is handed on
unfoldable pub text_reading : Writing Level → Reading
text_reading w = record {
  fault = λ b x. if is_good_byte x then None else Some (BadCell (length b));
  adds = λ b x. behind w (cells_of_text b) (byte_cells x);
  end_fault = λ b. None;
  ends = λ b. w.ends (cells_of_text b);
}

-- a reader that has taken the bytes b, none of which it refused; cells of them were counted, and a taker that took them
-- follows f
pub record TextTaken (text : TextReader) (cells : ℕ) (f : List Level → Type 0) (b : List ℕ) : Type 0 where
  pub reader : text ≡ text_reader_of b
  pub lawful : IsCellText b
  pub count : cells ≡ length (cells_of_text b)
  pub taker : f (cells_of_text b)

-- cell text as an input, with a reader, the count of its cells and the taker that took them
abbrev pub text_state : TextReader → ℕ → TakerState Level → InputState
text_state text cells taker = record {
  reads = text_reading taker.writes;
  follows = TextTaken text cells taker.follows;
  stopped = λ b. taker.follows (cells_of_text b);
  finished = TextTaken text cells taker.finished;
}

-- the first n cells of an octet
unfoldable pub octet_front : ℕ → ℕ → List Level
octet_front n octet = take n (octet_cells octet)

-- packed cells: an octet is handed on when two more have come, and what of the last two is used at the end
unfoldable pub packed_reading : Writing Level → Reading
packed_reading w = record {
  fault = λ b x. None;
  adds = λ b x. behind w (whole_cells b) (answer_cells (packed_answer (packed_reader_of b)));
  end_fault = λ b. if is_packed b then None else Some (BadPadding (last_place b));
  ends = λ b. behind w (whole_cells b) (end_cells (packed_end (packed_reader_of b))) ++ w.ends (cells_of_packed b);
}

-- a reader that has taken the octets b; those cells of them that stand whatever follows were counted and taken; and the
-- same behind the end
pub record PackedTaken (packed : PackedReader) (cells : ℕ) (f : List Level → Type 0) (b : List ℕ) : Type 0 where
  pub reader : packed ≡ packed_reader_of b
  pub count : cells ≡ length (whole_cells b)
  pub taker : f (whole_cells b)

pub record PackedEnded (cells : ℕ) (z : List Level → Type 0) (b : List ℕ) : Type 0 where
  pub count : cells ≡ length (cells_of_packed b)
  pub taker : z (cells_of_packed b)

-- packed cells as an input
abbrev pub packed_state : PackedReader → ℕ → TakerState Level → InputState
packed_state packed cells taker = record {
  reads = packed_reading taker.writes;
  follows = PackedTaken packed cells taker.follows;
  stopped = λ b. taker.follows (whole_cells b);
  finished = PackedEnded cells taker.finished;
}

-- a taker was handed the cells d; and the same with the end behind them
abbrev pub CellsRan : TakerState Level → TakerState Level → List Level → Movement → Result (Unit {0}) Fault → Type 0
CellsRan old new d sink (Ok u) =
    (new.writes ≡ old.writes) × ((c : List Level) → old.follows c → new.follows (c ++ d))
    × ((c : List Level) → old.follows c → Grew sink.old sink.new (behind old.writes c d)) × Quiet sink
CellsRan old new d sink (Err x) =
    Failed sink × ((c : List Level) → old.follows c → GrewFront sink.old sink.new (behind old.writes c d))

-- a taker took the first of the cells `line`, one at least, so that `rest` is left; where the sink failed, a front of what
-- all of them write was taken
abbrev pub SomeCellsRan : TakerState Level → TakerState Level → List Level → List Level → Movement
    → Result (Unit {0}) Fault → Type 0
SomeCellsRan old new line rest sink (Ok u) =
    (front : List Level) × (line ≡ front ++ rest) × (0 < length front) × CellsRan old new front sink (Ok u)
SomeCellsRan old new line rest sink (Err x) = CellsRan old new line sink (Err x)

-- what cells write that come, and the end behind them
abbrev pub ending : Writing Level → List Level → List Level → List ℕ
ending w c d = behind w c d ++ w.ends (c ++ d)

abbrev pub EndCellsRan : TakerState Level → TakerState Level → List Level → Movement → Result (Unit {0}) Fault → Type 0
EndCellsRan old new d sink (Ok u) =
    ((c : List Level) → old.follows c
    → new.finished (c ++ d) × Grew sink.old sink.new (ending old.writes c d)) × Quiet sink
EndCellsRan old new d sink (Err x) =
    Failed sink × ((c : List Level) → old.follows c → GrewFront sink.old sink.new (ending old.writes c d))
