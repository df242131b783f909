-- Inverted bits of a channel status, and what its check tells of them.
use Rattle.std.specs.Prelude.{ℕ, zero, suc, List, [], ◌∷◌, Bool, not, length, ◌≡◌, ◌<◌}
use Rattle.aes3_status.specs.Check.{weight, times_x, CheckHolds}

-- these bits with bit i inverted
abbrev pub flipped : ℕ → List Bool → List Bool
flipped i [] = []
flipped zero (bit ∷ bits) = not bit ∷ bits
flipped (suc i) (bit ∷ bits) = bit ∷ flipped i bits

-- one bit is inverted
pub record OneFlipped (before after : List Bool) : Type 0 where
  pub place : ℕ
  pub within : place < length before
  pub is : after ≡ flipped place before

-- two bits at different places are inverted
pub record TwoFlipped (before after : List Bool) : Type 0 where
  pub first : ℕ
  pub second : ℕ
  pub apart : first < second
  pub within : second < length before
  pub is : after ≡ flipped first (flipped second before)

-- no channel status whose check holds keeps it with one bit inverted, or with two at different places
abbrev pub OneFlipIsFound : Type 0
OneFlipIsFound =
    (before after : List Bool) → length before ≡ 192 → CheckHolds before → OneFlipped before after → ¬ CheckHolds after

abbrev pub TwoFlipsAreFound : Type 0
TwoFlipsAreFound =
    (before after : List Bool) → length before ≡ 192 → CheckHolds before → TwoFlipped before after → ¬ CheckHolds after

-- the weights from bit 191 down to bit 0
abbrev pub WeightsArePowers : Type 0
WeightsArePowers = (weight 191 ≡ 1) × ((i : ℕ) → i < 191 → weight i ≡ times_x (weight (suc i)))
