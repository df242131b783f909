-- Octets of packed cells fed to a reader one behind the other.
use Rattle.std.specs.Prelude.{ℕ, List, [], ◌∷◌, ◌++◌}
use Rattle.aes3_level.specs.declared.level.Level.{Level}
use Rattle.aes3_cell.specs.PackedReading.{PackedReader, packed_answer, packed_next, answer_cells}

-- the reader behind octets
abbrev pub octets_fed : PackedReader → List ℕ → PackedReader
octets_fed reader [] = reader
octets_fed reader (octet ∷ octets) = octets_fed (packed_next reader octet) octets

-- the cells that it answers to them
abbrev pub cells_fed : PackedReader → List ℕ → List Level
cells_fed reader [] = []
cells_fed reader (octet ∷ octets) = answer_cells (packed_answer reader) ++ cells_fed (packed_next reader octet) octets
