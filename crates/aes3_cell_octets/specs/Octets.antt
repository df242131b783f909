-- Octets of cells as hardware gives them: without the octet that counts, or with the first cell in the lowest bit.
use Rattle.std.specs.Prelude.{ℕ, List, [], ◌∷◌, ◌++◌, ◌≡◌, ◌<◌, drop, map, nat_lt, replicate, take, if◌then◌else◌}
use Rattle.std.specs.List.{flat_map}
use Rattle.aes3_level.specs.declared.level.Level.{Level}
use Rattle.aes3_level.specs.declared.level.Level.TheVariants.{Low}
use Rattle.aes3_cell.specs.Packed.{last_place, octet_of}
use Rattle.aes3_level.specs.Words.{low_cells}

-- raw octets have no octet behind them that counts; packed, they have one, and it says that none of their cells is
-- unused
abbrev pub packed_of_raw : List ℕ → List ℕ
packed_of_raw octets = octets ++ 0 ∷ []

-- the eight cells of an octet, the first in the lowest bit
abbrev pub reversed_cells : ℕ → List Level
reversed_cells octet = low_cells 8 octet

-- the octet that has these cells with the first in the highest bit
abbrev pub reversed : ℕ → ℕ
reversed octet = octet_of (reversed_cells octet)

-- the same of a number that may be none: then it stays
abbrev pub reversed_octet : ℕ → ℕ
reversed_octet number = if nat_lt number 256 then reversed number else number

-- octets pack these cells with the first of each octet in the lowest bit; the last octet is a number, as ever
pub record PacksReversed (octets : List ℕ) (cells : List Level) : Type 0 where
  pub front : List ℕ
  pub unused : ℕ
  pub last : octets ≡ front ++ unused ∷ []
  pub few : unused < 8
  pub filled : flat_map reversed_cells front ≡ cells ++ replicate unused Low

-- octets with the first cell in the lowest bit, reversed, but for the last, which counts if none follows
abbrev pub reversed_front : List ℕ → List ℕ
reversed_front octets = map reversed (take (last_place octets) octets)

-- the same with the last: it is a number, and stays as it is
abbrev pub packed_of_reversed : List ℕ → List ℕ
packed_of_reversed octets = reversed_front octets ++ drop (last_place octets) octets
