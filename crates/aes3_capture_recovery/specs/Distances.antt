-- How far edges lie from their places.
use Rattle.std.specs.Prelude.{ℕ, List, [], ◌∷◌, ◌+◌, ◌-◌, ◌*◌, ◌/◌, ◌^◌, ◌≡◌, map, max, min}

-- how far an edge was from its place, in 256ths of a sample, once the grid has gone a sixteenth of the way to it, where it
-- then lies so far behind the one that `middle` tells
abbrev pub distance_at : ℕ → ℕ → ℕ
distance_at middle place =
    ((place - middle) + (middle - place)) / 256 + ((place - middle) + (middle - place)) / 256 / 15

-- the greatest of these
abbrev pub greatest : List ℕ → ℕ
greatest [] = 0
greatest (n ∷ numbers) = max n (greatest numbers)

-- their sum
abbrev pub total : List ℕ → ℕ
total [] = 0
total (n ∷ numbers) = n + total numbers

-- the sum of their squares
abbrev pub squares : List ℕ → ℕ
squares [] = 0
squares (n ∷ numbers) = n * n + squares numbers

-- the mean distance behind these, where each weighs a 256th
abbrev pub spread_after : ℕ → List ℕ → ℕ
spread_after spread [] = spread
spread_after spread (n ∷ numbers) = spread_after (min (spread - spread / 256 + n) (2 ^ 32)) numbers

-- the distances of edges from their places, the greatest of them, their sum and that of their squares
pub record AreDistances (middle : ℕ) (places each : List ℕ) (most sum sum_of_squares : ℕ) : Type 0 where
  pub each_is : each ≡ map (distance_at middle) places
  pub most_is : most ≡ greatest (map (distance_at middle) places)
  pub sum_is : sum ≡ total (map (distance_at middle) places)
  pub squares_is : sum_of_squares ≡ squares (map (distance_at middle) places)
