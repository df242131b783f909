-- Changed, lost and inserted cells, and the block that two changed cells between two slots make of another.
use Rattle.std.specs.Prelude.{ℕ, zero, suc, List, [], ◌∷◌, Bool, not, ◌-◌, ◌/◌, ◌%◌, ◌==◌, ◌&&◌, nat_le, if◌then◌else◌}
use Rattle.aes3_level.specs.declared.level.Level.{Level}
use Rattle.aes3_level.specs.declared.level.Level.TheVariants.{Low, High}
use Rattle.aes3_level.specs.Cells.{other}
use Rattle.aes3_slot.specs.Reading.{differs}

-- cells of which cell k has the other level
abbrev pub changed : ℕ → List Level → List Level
changed k [] = []
changed zero (x ∷ c) = other x ∷ c
changed (suc k) (x ∷ c) = x ∷ changed k c

-- cells without cell k
abbrev pub without : ℕ → List Level → List Level
without k [] = []
without zero (x ∷ c) = c
without (suc k) (x ∷ c) = x ∷ without k c

-- cells with x put in before cell k
abbrev pub inserted : ℕ → Level → List Level → List Level
inserted zero x c = x ∷ c
inserted (suc k) x [] = x ∷ []
inserted (suc k) x (y ∷ c) = y ∷ inserted k x c

-- at how many places two lists of cells differ
abbrev pub apart : List Level → List Level → ℕ
apart [] d = 0
apart (x ∷ c) [] = 0
apart (x ∷ c) (y ∷ d) = if differs x y then suc (apart c d) else apart c d

-- these places, where the first cells are at place n
abbrev pub places_apart : ℕ → List Level → List Level → List ℕ
places_apart n [] d = []
places_apart n (x ∷ c) [] = []
places_apart n (x ∷ c) (y ∷ d) = if differs x y then n ∷ places_apart (suc n) c d else places_apart (suc n) c d

-- how many cells are high
abbrev pub high_count : List Level → ℕ
high_count [] = 0
high_count (Low ∷ c) = high_count c
high_count (High ∷ c) = suc (high_count c)

-- whether cell x of a block is the second of a slot behind which another slot of its subframe follows
abbrev pub between_slots : ℕ → Bool
between_slots x = nat_le 9 (x % 64) && (nat_le (x % 64) 61 && ((x % 2) == 1))

-- bits of which bit n and the one behind it, where there is one, are inverted
abbrev pub pair_inverted : ℕ → List Bool → List Bool
pair_inverted n [] = []
pair_inverted zero (x ∷ []) = not x ∷ []
pair_inverted zero (x ∷ y ∷ bits) = not x ∷ not y ∷ bits
pair_inverted (suc n) (x ∷ bits) = x ∷ pair_inverted n bits

-- payloads of which those of number j has such bits
abbrev pub inverted_in : ℕ → ℕ → List (List Bool) → List (List Bool)
inverted_in j n [] = []
inverted_in zero n (p ∷ ps) = pair_inverted n p ∷ ps
inverted_in (suc j) n (p ∷ ps) = p ∷ inverted_in j n ps

-- the block whose cells are those of b but for cell x, the second of a slot, and the cell behind it, the first of the
-- next slot: the bits of both slots are inverted, where the second isn't that of parity
abbrev pub exchanged : ℕ → List (List Bool) → List (List Bool)
exchanged x b = inverted_in (x / 64) ((x % 64 - 9) / 2) b
