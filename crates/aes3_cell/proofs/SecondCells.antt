-- Every second cell kept.
use Rattle.std.proofs.Common.{◌≡◌, ℕ, zero, suc, ◌+◌, ◌*◌, ◌/◌, ◌%◌, ◌<◌, ◌∷◌, ◌++◌, append-nil, refl, sym, ap}
use Rattle.std.proofs.Common.{ap₂, ◌∙◌, arith}
use Rattle.std.specs.Int.{bit_at}
use Rattle.std.proofs.lemmas.Nat.Bits.{bit_at_lowest, bit_at-suc}
use Rattle.aes3_level.specs.Words.{level_of, low_cells}
use Rattle.aes3_cell.specs.Scattered.{cell_if, kept_cells}
use Rattle.aes3_cell.proofs.KeptCells.{kept-add}

-- n pairs of places, and a one at the first place of each
abbrev places_of : ℕ → ℕ
places_of zero = 0
places_of (suc n) = suc (suc (places_of n))

abbrev firsts : ℕ → ℕ
firsts zero = 0
firsts (suc n) = 4 * firsts n + 1

first-kept : (n w l : ℕ) → ((i : ℕ) → i < n → bit_at w i ≡ bit_at l (2 * i))
    → low_cells n w ≡ kept_cells (places_of n) (firsts n) l
unfolding kept_cells
first-kept zero w l h = refl
first-kept (suc n) w l h =
    let a : 1 ≡ firsts (suc n) % 2 = omega arith in
    let b : 0 ≡ firsts (suc n) / 2 % 2 = omega arith in
    let c : firsts n ≡ firsts (suc n) / 2 / 2 = omega arith in
    let e : w % 2 ≡ l % 2 = sym (bit_at_lowest w) ∙ h 0 (omega arith) ∙ bit_at_lowest l in
    let next : (i : ℕ) → i < n → bit_at (w / 2) i ≡ bit_at (l / 2 / 2) (2 * i)
    = λ i g. sym (bit_at-suc w i) ∙ h (suc i) (omega (arith, g))
    ∙ ap (bit_at l) (let d : 2 * suc i ≡ suc (suc (2 * i)) = omega arith in d)
    ∙ bit_at-suc l (suc (2 * i)) ∙ bit_at-suc (l / 2) (2 * i) in
    ap₂ (λ v cells. level_of v ∷ cells) e (first-kept n (w / 2) (l / 2 / 2) next)
    ∙ ap₂ ◌++◌ (ap (λ v. cell_if v (l % 2)) a)
    (ap₂ ◌++◌ (ap (λ v. cell_if v (l / 2 % 2)) b) (ap (λ v. kept_cells (places_of n) v (l / 2 / 2)) c))

pub from-first : (w l : ℕ) → ((i : ℕ) → i < 32 → bit_at w i ≡ bit_at l (2 * i))
    → low_cells 32 w ≡ kept_cells 64 6148914691236517205 l
from-first w l h = first-kept 32 w l h

-- the same from the second place on
pub from-second : (l : ℕ) → kept_cells 64 6148914691236517205 (l / 2) ≡ kept_cells 64 12297829382473034410 l
unfolding kept_cells
from-second l = kept-add 63 1 6148914691236517205 (l / 2) ∙ append-nil (kept_cells 63 6148914691236517205 (l / 2))
