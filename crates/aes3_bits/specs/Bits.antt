-- The bits of a number, the lowest first.
use Rattle.std.specs.Prelude.{ℕ, zero, suc, List, [], ◌∷◌, Bool, true, false, not, cond, ◌+◌, ◌*◌, ◌%◌, ◌/◌, ◌==◌}

abbrev pub low_bits : ℕ → ℕ → List Bool
low_bits zero n = []
low_bits (suc k) n = ((n % 2) == 1) ∷ low_bits k (n / 2)

-- the number of these bits
abbrev pub number : List Bool → ℕ
number [] = 0
number (b ∷ bits) = cond b 1 0 + 2 * number bits

-- whether the number of ones is odd
abbrev pub odd_ones : List Bool → Bool
odd_ones [] = false
odd_ones (false ∷ bits) = odd_ones bits
odd_ones (true ∷ bits) = not (odd_ones bits)
