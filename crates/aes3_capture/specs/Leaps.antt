-- A step from edge to edge in 32 bits.
use Rattle.std.specs.Prelude.{ℕ, ◌≡◌, ◌≤◌, ◌+◌, ◌-◌, ◌*◌, ◌/◌, ◌%◌, ◌^◌}

-- From an edge behind which a follower has these numbers over a run of so many cells to the next edge: its place, and the
-- follower's numbers there. All are what is left of the right ones in 32 bits.
pub record IsStep (middle run cells same other period place next_same next_other next_period : ℕ) : Type 0 where
  pub place_is : place ≡ ((run * 65536 % 2 ^ 32 + other) % 2 ^ 32 + (2 ^ 32 - cells * period % 2 ^ 32)) % 2 ^ 32
  pub other_is : next_other ≡ ((place + (2 ^ 32 - other)) % 2 ^ 32 + same) % 2 ^ 32
  pub same_is : next_same ≡ ((place + (2 ^ 32 - place / 16)) % 2 ^ 32 + middle / 16) % 2 ^ 32
  pub period_is : next_period ≡ ((period + (2 ^ 32 - middle / 8192)) % 2 ^ 32 + place / 8192) % 2 ^ 32

-- A step's numbers are at most these: its samples and cells; how far the edge's place lies past the shortest cell; how far the
-- time lies past that of the cells less the shortest one; how far the grids lie apart, and half of the shortest cell; and
-- how far the period lies past the shortest cell. These are what is left of the differences in 32 bits.
pub record IsBounded (low run cells other place next_same next_other next_period : ℕ)
    (runs_most cells_most places_most times_most apart_most periods_most : ℕ) : Type 0 where
  pub run_is : run ≤ runs_most
  pub cells_is : cells ≤ cells_most
  pub place_is : (place + (2 ^ 32 - low)) % 2 ^ 32 ≤ places_most
  pub time_is : ((place + (2 ^ 32 - other)) % 2 ^ 32 + low) % 2 ^ 32 ≤ times_most
  pub apart_is : ((next_same + (2 ^ 32 - next_other)) % 2 ^ 32 + low / 2) % 2 ^ 32 ≤ apart_most
  pub period_is : (next_period + (2 ^ 32 - low)) % 2 ^ 32 ≤ periods_most
