-- Packed cells: octets of eight cells each, the first cell in the highest bit, then one last octet, the number of
-- unused cells.
use Rattle.std.specs.Prelude.{ℕ, zero, suc, List, [], ◌∷◌, ◌++◌, Bool, false, ◌≡◌, ◌<◌, ◌+◌, ◌-◌, ◌*◌, ◌/◌, ◌%◌, ◌^◌}
use Rattle.std.specs.Prelude.{◌==◌, ◌&&◌, nat_lt, length, take, drop, get_or, replicate, reverse}
use Rattle.std.specs.List.{flat_map}
use Rattle.aes3_level.specs.declared.level.Level.{Level}
use Rattle.aes3_level.specs.declared.level.Level.TheVariants.{Low}
use Rattle.aes3_level.specs.Words.{bit_of, low_cells}

-- the eight cells of an octet, the first in the highest bit
abbrev pub octet_cells : ℕ → List Level
octet_cells octet = reverse (low_cells 8 octet)

-- the cells of octets
abbrev pub cells_of_octets : List ℕ → List Level
cells_of_octets octets = flat_map octet_cells octets

-- octets pack these cells: fewer than eight cells of the octets before the last stand unused behind them, all Low, and
-- the last octet is their number
pub record Packs (octets : List ℕ) (cells : List Level) : Type 0 where
  pub front : List ℕ
  pub unused : ℕ
  pub last : octets ≡ front ++ unused ∷ []
  pub few : unused < 8
  pub filled : cells_of_octets front ≡ cells ++ replicate unused Low

abbrev pub IsPacked : List ℕ → Type 0
IsPacked octets = (cells : List Level) × Packs octets cells

-- the same as a test: the last octet is a number n below 8, and the lowest n bits of the one before it are zero; a
-- single octet is 0
abbrev pub is_padded : ℕ → ℕ → Bool
is_padded octet last = nat_lt last 8 && ((octet % 2 ^ last) == 0)

abbrev pub ends_packed : List ℕ → Bool
ends_packed [] = false
ends_packed (last ∷ []) = last == 0
ends_packed (last ∷ octet ∷ before) = is_padded octet last

unfoldable pub is_packed : List ℕ → Bool
is_packed octets = ends_packed (reverse octets)

-- where octets that aren't packed cells are at fault: at the last octet, or at 0 where there is none
abbrev pub last_place : List ℕ → ℕ
last_place octets = length octets - 1

-- the cells of all octets before the last but the unused ones
abbrev pub last_octet : List ℕ → ℕ
last_octet octets = get_or (reverse octets) 0 0

unfoldable pub cells_of_packed : List ℕ → List Level
cells_of_packed octets =
    take (8 * last_place octets - last_octet octets) (cells_of_octets (take (last_place octets) octets))

-- the cells of all octets but the last two: no later octet makes any of them unused
unfoldable pub whole_cells : List ℕ → List Level
whole_cells octets = cells_of_octets (take (length octets - 2) octets)

-- what cells weigh in a number: the first weighs w, and each next one half of the one before
abbrev pub weight : ℕ → List Level → ℕ
weight w [] = 0
weight w (level ∷ cells) = w * bit_of level + weight (w / 2) cells

-- the octet of at most eight cells, the first in the highest bit; those that are missing are Low
abbrev pub octet_of : List Level → ℕ
octet_of cells = weight 128 cells

-- the first n octets of cells
abbrev pub first_octets : ℕ → List Level → List ℕ
first_octets zero cells = []
first_octets (suc n) cells = octet_of (take 8 cells) ∷ first_octets n (drop 8 cells)

-- how many octets n cells need, and the octets of cells
abbrev pub octets_needed : ℕ → ℕ
octets_needed n = (n + 7) / 8

unfoldable pub octets_of : List Level → List ℕ
octets_of cells = first_octets (octets_needed (length cells)) cells

-- cells as they are written: their octets, and how many cells of these are unused
unfoldable pub packed_of : List Level → List ℕ
packed_of cells = octets_of cells ++ (8 * octets_needed (length cells) - length cells) ∷ []
