-- How a line that is followed stays followed.
use Rattle.std.specs.Prelude.{ℕ, List, [], ◌∷◌, ◌++◌, ◌≡◌, ◌<◌, ◌≤◌, ◌+◌, ◌-◌, ◌*◌, ◌/◌, max}
use Rattle.aes3_level.specs.declared.level.Level.{Level}
use Rattle.aes3_capture.specs.declared.follower.Bounds.{Bounds}
use Rattle.aes3_capture.specs.declared.follower.Follower.{Follower}
use Rattle.aes3_capture.specs.Captures.{IsBetween, SpreadsLate}
use Rattle.aes3_capture.specs.Directions.{IsWider}
use Rattle.aes3_capture.specs.Following.{Follows, IsWithin, middle_of}
use Rattle.aes3_capture_recovery.specs.Endings.{level_if}
use Rattle.aes3_capture_recovery.specs.Recovering.{runs_to_end}
use Rattle.aes3_capture_recovery.specs.declared.recovery.Recovery.{Recovery}
use Rattle.aes3_capture_recovery.specs.declared.recovery.State.TheVariants.{Following}

-- how far three cells of a line can differ from three of a follower, where each are as long as their bounds say
abbrev pub drift : Bounds → Bounds → ℕ
drift bounds narrow = 3 * max (bounds.high - narrow.low) (narrow.high - bounds.low)

-- A line with such cells and edges is never taken for lost by a recovery whose follower has these bounds: so small are the mean distance
-- of its edges from their places, at most a fifth of a cell, and that between the grids of the two directions, at most half a cell. At
-- first the grids may lie `most` further from the line's than its cells would carry them.
pub record IsKeepable (bounds narrow : Bounds) (spread late later most : ℕ) : Type 0 where
  pub wide : IsWider bounds narrow
  pub near : 11 * spread + 512 * drift bounds narrow + 2 * most + 5000 ≤ 16 * (bounds.low / 5)
  pub above : late + spread + 61 * drift bounds narrow + 2 * most + 64 ≤ later + bounds.low / 2
  pub below : later + spread + 61 * drift bounds narrow + 2 * most + 64 ≤ late + bounds.low / 2

-- The latest edge of a line was displaced by `displaced`, and `first` and `second` are the means of the displacements of its direction
-- and of the other: the grids lie so far from where these means have them as `drift` carries them, and `near` and `far` further.
pub record AreNear (follower : Follower) (drift first second displaced near far : ℕ) : Type 0 where
  pub same_place : IsWithin (follower.same + first) (middle_of follower.bounds + displaced) (30 * drift + 32 + near)
  pub other_place : IsWithin (follower.other + second) (middle_of follower.bounds + displaced) (31 * drift + 32 + far)

-- how far a place lies from the middle of a spread, twice
abbrev pub off_middle : ℕ → ℕ → ℕ → ℕ
off_middle late spread place = (2 * place - (2 * late + spread)) + ((2 * late + spread) - 2 * place)

-- A follower at an edge of a line that can be kept, and the mean distance of the edges up to it. That is so small that it stays below
-- a fifth of a cell, also once the means of the displacements have gone to the middle of their spread and the grids to those means.
pub record IsCalm (follower : Follower) (distance : ℕ) (narrow : Bounds) (spread late later most displaced : ℕ) : Type 0 where
  pub keepable : IsKeepable follower.bounds narrow spread late later most
  pub first : ℕ
  pub second : ℕ
  pub follows : Follows follower first second displaced 0 0
  pub first_side : IsBetween late first spread
  pub second_side : IsBetween later second spread
  pub near : ℕ
  pub far : ℕ
  pub near_most : near ≤ most
  pub far_most : far ≤ most
  pub places : AreNear follower (drift follower.bounds narrow) first second displaced near far
  pub small : 96 * distance + off_middle late spread first + off_middle later spread second + 6 * (near + far)
      ≤ 96 * (follower.bounds.low / 5)

-- The runs ahead are a capture of the line from that edge on.
pub record IsKept (follower : Follower) (distance : ℕ) (narrow : Bounds) (spread : ℕ) (ahead : List ℕ) : Type 0 where
  pub late : ℕ
  pub later : ℕ
  pub most : ℕ
  pub displaced : ℕ
  pub calm : IsCalm follower distance narrow spread late later most displaced
  pub counts : List ℕ
  pub captured : SpreadsLate narrow spread late later displaced counts ahead

-- A recovery follows a line, and the samples ahead, behind those that wait for an edge, go on with it: edges end their runs, and so
-- few samples come behind the last edge that the line does not count as dead.
pub record IsOnLine (narrow : Bounds) (spread : ℕ) (ahead : List Level) (now : Recovery) : Type 0 where
  pub state : now.state ≡ Following
  pub some : 1 ≤ now.figures.samples
  pub runs : List ℕ
  pub behind : ℕ
  pub runs_are : runs_to_end (level_if now.line.edges.high) now.line.edges.run ahead ≡ runs ++ behind ∷ []
  pub alive : 1024 * behind < now.line.follower.bounds.low
  pub kept : IsKept now.line.follower now.spread narrow spread runs

-- So it goes on, and was not measured.
pub record StaysKept (narrow : Bounds) (spread : ℕ) (ahead : List ℕ) (old new : Recovery) : Type 0 where
  pub state : new.state ≡ Following
  pub measured : new.figures.measured ≡ old.figures.measured
  pub bounds : new.line.follower.bounds ≡ old.line.follower.bounds
  pub kept : IsKept new.line.follower new.spread narrow spread ahead

pub record StaysOnLine (narrow : Bounds) (spread : ℕ) (ahead : List Level) (old new : Recovery) : Type 0 where
  pub on : IsOnLine narrow spread ahead new
  pub measured : new.figures.measured ≡ old.figures.measured
