-- The laws of octets in other forms.
use Rattle.std.specs.Prelude.{ℕ, List, ◌≡◌, ◌%◌, ◌<◌, ◌↔◌, IsTrue, get_or, length, map}
use Rattle.std.specs.List.{flat_map}
use Rattle.aes3_level.specs.declared.level.Level.{Level}
use Rattle.aes3_cell.specs.Packed.{Packs, cells_of_octets, cells_of_packed, is_packed, packed_of}
use Rattle.aes3_cell_octets.specs.Octets.{PacksReversed, packed_of_raw, packed_of_reversed, reversed, reversed_cells, reversed_octet}

-- raw octets, packed, mean exactly their cells
abbrev pub RawArePacked : Type 0
RawArePacked = (octets : List ℕ) → Packs (packed_of_raw octets) (cells_of_octets octets)
    × IsTrue (is_packed (packed_of_raw octets))
    × (cells_of_packed (packed_of_raw octets) ≡ cells_of_octets octets)

-- octets reversed have the cells that they had with the first in the lowest bit
abbrev pub ReversedHaveCells : Type 0
ReversedHaveCells = (octets : List ℕ) → cells_of_octets (map reversed octets) ≡ flat_map reversed_cells octets

-- whole octets of cells, packed and then reversed with the last, are packed with the first in the lowest bit: that none
-- is unused reads the same either way
abbrev pub WholeAreReversed : Type 0
WholeAreReversed = (c : List Level) → length c % 8 ≡ 0 → PacksReversed (map reversed (packed_of c)) c

-- packed cells with the first of each octet in the lowest bit are read as exactly their cells, and nothing else is
abbrev pub ReversedAreRead : Type 0
ReversedAreRead = (octets : List ℕ) (cells : List Level)
    → (PacksReversed octets cells ↔ Packs (packed_of_reversed octets) cells)

-- raw octets with the first cell in the lowest bit are read as they are reversed, each of them
abbrev pub RawAreReversed : Type 0
RawAreReversed = (octets : List ℕ) → packed_of_reversed (packed_of_raw octets) ≡ packed_of_raw (map reversed octets)

-- octets reversed twice are as they were
abbrev pub ReversedTwice : Type 0
ReversedTwice = (octets : List ℕ) → (map reversed_octet (map reversed_octet octets) ≡ octets)
    × (((i : ℕ) → get_or octets i 0 < 256) → map reversed_octet octets ≡ map reversed octets)
