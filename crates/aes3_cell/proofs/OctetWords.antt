-- Words of cells in octets.
use Rattle.std.proofs.Common.{◌≡◌, ℕ, ◌≤◌, List, [], ◌∷◌, length, take, get_or, refl, arith}

-- the first six octets, one by one
pub first-six : (octets : List ℕ) → 6 ≤ length octets
    → get_or octets 0 0 ∷ get_or octets 1 0 ∷ get_or octets 2 0 ∷ get_or octets 3 0 ∷ get_or octets 4 0
    ∷ get_or octets 5 0 ∷ [] ≡ take 6 octets
first-six (o ∷ p ∷ q ∷ r ∷ s ∷ t ∷ more) l = refl
first-six _ l = absurd (omega arith)
