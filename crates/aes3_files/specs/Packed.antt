-- Packed cells by their first octets.
use Rattle.std.specs.Prelude.{ℕ, Bool, List, [], ◌∷◌, ◌==◌, ◌||◌, ◌&&◌, not, false, length, map, nat_lt}
use Rattle.std.specs.List.{flat_map}
use Rattle.std.specs.Int.{bit_at}

-- the bits of an octet, the highest first, or the lowest first
abbrev pub bits_down : ℕ → List ℕ
bits_down octet = map (bit_at octet) (7 ∷ 6 ∷ 5 ∷ 4 ∷ 3 ∷ 2 ∷ 1 ∷ 0 ∷ [])

abbrev pub bits_up : ℕ → List ℕ
bits_up octet = map (bit_at octet) (0 ∷ 1 ∷ 2 ∷ 3 ∷ 4 ∷ 5 ∷ 6 ∷ 7 ∷ [])

-- and of octets, one after the other
abbrev pub highest_first : List ℕ → List ℕ
highest_first octets = flat_map bits_down octets

abbrev pub lowest_first : List ℕ → List ℕ
lowest_first octets = flat_map bits_up octets

-- whether bits have four equal ones in a row
abbrev pub are_equal : ℕ → ℕ → ℕ → ℕ → Bool
are_equal a b c d = (a == b) && (b == c) && (c == d)

abbrev pub has_long_run : List ℕ → Bool
has_long_run [] = false
has_long_run (a ∷ []) = false
has_long_run (a ∷ b ∷ []) = false
has_long_run (a ∷ b ∷ c ∷ []) = false
has_long_run (a ∷ b ∷ c ∷ d ∷ bits) = are_equal a b c d || has_long_run (b ∷ c ∷ d ∷ bits)

-- whether octets can be packed cells: there are two or more, and their cells have no four equal ones in a row
unfoldable pub are_packed : List ℕ → Bool
are_packed octets = nat_lt 1 (length octets) && not (has_long_run (highest_first octets))

-- whether they can be only with the first cell in the lowest bit
unfoldable pub are_reversed : List ℕ → Bool
are_reversed octets =
    nat_lt 1 (length octets) && has_long_run (highest_first octets) && not (has_long_run (lowest_first octets))
