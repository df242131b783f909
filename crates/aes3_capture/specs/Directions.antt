-- A line followed in both directions, its edges by their numbers.
use Rattle.std.specs.Prelude.{ℕ, List, ◌<◌, ◌≤◌, ◌+◌, ◌-◌, ◌/◌, get_or}
use Rattle.aes3_capture.specs.declared.follower.Bounds.{Bounds}
use Rattle.aes3_capture.specs.declared.follower.Follower.{Follower}
use Rattle.aes3_capture.specs.Captures.{IsBetween, lateness, margin, wander}
use Rattle.aes3_capture.specs.Following.{Follows}

-- cells may be as long and as short as these bounds say, or more so
pub record IsWider (wide narrow : Bounds) : Type 0 where
  pub low : wide.low ≤ narrow.low
  pub high : narrow.high ≤ wide.high

-- a follower with these bounds bears such a spread, where falling edges are late by so much
pub record IsBorne (bounds : Bounds) (spread late later : ℕ) : Type 0 where
  pub narrow : spread < bounds.low / 2 - margin bounds
  pub above : late + spread < later + (bounds.low - wander bounds)
  pub below : later + spread < late + (bounds.low - wander bounds)

-- A follower at edge `e` of a line: the means of the displacements lie within the spread of their direction.
pub record IsAt (follower : Follower) (spread late later : ℕ) (places : List ℕ) (e : ℕ) : Type 0 where
  pub first : ℕ
  pub second : ℕ
  pub follows : Follows follower first second (get_or places e 0) 0 0
  pub first_side : IsBetween (lateness late later e) first spread
  pub second_side : IsBetween (lateness late later (e + 1)) second spread

-- The same in the other direction, where displacements count from `most` down.
pub record IsBehind (follower : Follower) (spread late later most : ℕ) (places : List ℕ) (e : ℕ) : Type 0 where
  pub first : ℕ
  pub second : ℕ
  pub follows : Follows follower first second (most - get_or places e 0) 0 0
  pub first_side : IsBetween (most - (lateness late later e + spread)) first spread
  pub second_side : IsBetween (most - (lateness late later (e + 1) + spread)) second spread
