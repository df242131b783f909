-- The bits that cells carry, read by place alone.
use Rattle.std.specs.Prelude.{ℕ, zero, suc, List, [], ◌∷◌, Bool, true, false, take, drop}
use Rattle.aes3_level.specs.declared.level.Level.{Level}
use Rattle.aes3_level.specs.declared.level.Level.TheVariants.{Low, High}

abbrev pub differs : Level → Level → Bool
differs Low Low = false
differs Low High = true
differs High Low = true
differs High High = false

abbrev pub same : Level → Level → Bool
same Low Low = true
same Low High = false
same High Low = false
same High High = true

-- a bit for each two cells: whether they differ
abbrev pub read_bits : List Level → List Bool
read_bits [] = []
read_bits (a ∷ []) = []
read_bits (a ∷ b ∷ c) = differs a b ∷ read_bits c

-- the bits of n subframes
abbrev pub read_slots : ℕ → List Level → List (List Bool)
read_slots zero c = []
read_slots (suc n) c = read_bits (take 56 (drop 8 c)) ∷ read_slots n (drop 64 c)
