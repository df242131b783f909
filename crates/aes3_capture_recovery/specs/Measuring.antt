-- A follower that was measured from runs of samples.
use Rattle.std.specs.Prelude.{ℕ, zero, suc, List, [], ◌∷◌, Option, Some, None, ◌≡◌, ◌≤◌, ◌+◌, ◌-◌, ◌*◌, ◌/◌, ◌%◌, Bool, ◌&&◌, if◌then◌else◌}
use Rattle.std.specs.Prelude.{nat_eq, nat_le, nat_lt, get_or, length, take}
use Rattle.aes3_capture.specs.declared.follower.Bounds.{Bounds}
use Rattle.aes3_capture.specs.declared.follower.Follower.{Follower}
use Rattle.aes3_capture.specs.Following.{Begins, CountedAll, middle_of}

-- how many of these runs of cells have one to three, as those of a line
abbrev pub runs_of_a_line : List ℕ → ℕ
runs_of_a_line [] = 0
runs_of_a_line (n ∷ cells) = (if nat_le 1 n && nat_le n 3 then 1 else 0) + runs_of_a_line cells

-- a cell may be a 1024th shorter or longer than this
pub record IsAround (bounds : Bounds) (period : ℕ) : Type 0 where
  pub low : bounds.low ≡ period - period / 1024
  pub high : bounds.high ≡ period + period / 1024

-- the period that was asked for, where one was
abbrev pub IsAsked : Option ℕ → ℕ → Type 0
IsAsked None period = Unit {0}
IsAsked (Some known) period = period ≡ known

-- A follower at an edge, whose cells lie around the period that was asked for, or around some other.
pub record IsPlaced (known : Option ℕ) (follower : Follower) : Type 0 where
  pub period : ℕ
  pub asked : IsAsked known period
  pub around : IsAround follower.bounds period
  pub at_an_edge : follower.elapsed ≡ 0

-- Of the cells that a follower counts of these runs of samples, at most one run in eight is none of a line.
pub record IsSteady (follower : Follower) (runs : List ℕ) : Type 0 where
  pub cells : List ℕ
  pub behind : Follower
  pub counted : CountedAll follower runs cells behind
  pub most : 7 * length runs ≤ 8 * runs_of_a_line cells

-- four runs of cells that are a preamble's: 3, 3, 1, 1 or 3, 2, 1, 2 or 3, 1, 1, 3
abbrev pub are_preamble : ℕ → ℕ → ℕ → ℕ → Bool
are_preamble first second third fourth =
    nat_eq first 3 && nat_eq third 1 && nat_le 1 second && nat_le second 3 && nat_eq fourth (4 - second)

-- The place in its subframe at which run `i` of these begins, where the first begins so many cells behind the beginning of one.
abbrev pub place_at : ℕ → List ℕ → ℕ → ℕ
place_at place cells zero = place
place_at place [] (suc i) = place
place_at place (n ∷ cells) (suc i) = place_at ((place + n) % 64) cells i

-- Places that are whole subframes apart, where the first run of these begins so many cells behind one: at how many of them
-- begins a run, or lie cells inside of one
abbrev pub places_from : ℕ → List ℕ → ℕ
places_from place [] = 0
places_from place (n ∷ cells) = (if nat_eq place 0 && nat_le 1 n then 1 else 0) + (if nat_lt 64 (place + n) then 1 else 0)
    + places_from ((place + n) % 64) cells

-- and at how many of them a preamble begins
abbrev pub preambles_from : ℕ → List ℕ → ℕ
preambles_from place [] = 0
preambles_from place (n ∷ cells) = (if nat_eq place 0 && are_preamble n (get_or cells 0 0) (get_or cells 1 0) (get_or cells 2 0) then 1 else 0)
    + preambles_from ((place + n) % 64) cells

-- Of some places that are whole subframes apart, three in four begin a preamble, and two do at least. The last three runs, behind
-- which a preamble may be cut, are not looked at.
pub record HavePreambles (cells : List ℕ) : Type 0 where
  pub place : ℕ
  pub some : 2 ≤ preambles_from place cells
  pub many : length cells / 64 ≤ preambles_from place cells + 1
  pub most : 3 * places_from place (take (length cells - 3) cells) ≤ 4 * preambles_from place cells

-- a follower at an edge, with these bounds, that counts the cells of a line of these runs of samples
pub record IsLine (bounds : Bounds) (runs : List ℕ) (follower : Follower) : Type 0 where
  pub bounds_is : follower.bounds ≡ bounds
  pub at_an_edge : follower.elapsed ≡ 0
  pub steady : IsSteady follower runs
  pub preambles : HavePreambles steady.cells

-- a follower of the line that these runs of samples are, from the edge before the first of them on
pub record IsMeasured (known : Option ℕ) (runs : List ℕ) (follower : Follower) : Type 0 where
  pub placed : IsPlaced known follower
  pub steady : IsSteady follower runs
  pub preambles : HavePreambles steady.cells

-- the follower of a period that was asked for, which counts from the first sample on
pub record IsAskedFor (known : Option ℕ) (follower : Follower) : Type 0 where
  pub period : ℕ
  pub asked : known ≡ Some period
  pub around : IsAround follower.bounds period
  pub begins : Begins follower follower.bounds period (middle_of follower.bounds) (middle_of follower.bounds)
