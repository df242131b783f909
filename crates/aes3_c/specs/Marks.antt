-- Marks of a capture as plain numbers.
use Rattle.aes3_capture_places.specs.declared.marks.Mark.{Mark}
use Rattle.aes3_c.specs.declared.place_calls.Aes3Mark.{Aes3Mark}

-- the mark that these numbers are
abbrev pub mark_in : Aes3Mark → Mark
mark_in kept = record { cells = kept.cells; samples = kept.samples }
