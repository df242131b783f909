-- What the sources and the sink of other forms tell of their bytes, by what the end behind them tells.
use Rattle.std.specs.Prelude.{ℕ, List, [], ◌∷◌, Bool, Option, Some, None, map, drop, if◌then◌else◌, option_and_then}
use Rattle.std.specs.Option.{option_map}
use Rattle.std.specs.Str.{bytes_eq}
use Rattle.aes3_cell.specs.Packed.{last_place}
use Rattle.aes3_cell_octets.specs.Octets.{packed_of_raw, packed_of_reversed, reversed_front, reversed_octet}

-- raw octets, and whether the octet that counts was given behind them
abbrev pub raw_told : Bool → Option (List ℕ) → Option (List ℕ)
raw_told is_counted told = if is_counted then option_map packed_of_raw told else told

-- octets that are reversed, each of them
abbrev pub all_reversed : Option (List ℕ) → Option (List ℕ)
all_reversed told = option_map (map reversed_octet) told

-- octets up to the last, which is this one: those before it, reversed; of others nothing is told
abbrev pub reversed_before : ℕ → List ℕ → Option (List ℕ)
reversed_before last octets =
    if bytes_eq (drop (last_place octets) octets) (last ∷ []) then Some (reversed_front octets) else None

-- packed cells with the first of each octet in the lowest bit, of which the last octet is held back, or none is
abbrev pub reversed_told : Option ℕ → Option (List ℕ) → Option (List ℕ)
reversed_told (Some held) told = option_and_then (reversed_before held) told
reversed_told None told = option_map packed_of_reversed told

-- the octet, if there is one
abbrev pub only : Option ℕ → List ℕ
only (Some octet) = octet ∷ []
only None = []
