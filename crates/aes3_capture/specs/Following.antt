-- What a follower of edges knows of a line.
use Rattle.std.specs.Prelude.{ℕ, List, [], ◌∷◌, Bool, ◌≡◌, ◌≤◌, ◌+◌, ◌-◌, ◌*◌, ◌/◌, if◌then◌else◌, min, max, nat_le}
use Rattle.aes3_capture.specs.declared.follower.Bounds.{Bounds}
use Rattle.aes3_capture.specs.declared.follower.Follower.{Follower}
use Rattle.aes3_capture.specs.Captures.{IsRun, margin, mean_with, wander}

-- what the place of an edge on its grid counts from: one and a half of the shortest cell
abbrev pub middle_of : Bounds → ℕ
middle_of bounds = bounds.low + bounds.low / 2

-- A follower at an edge, with this period: nothing has passed since, and the edge lies at these places on the grid of
-- its direction and on the other.
pub record Begins (follower : Follower) (bounds : Bounds) (period same other : ℕ) : Type 0 where
  pub bounds_is : follower.bounds ≡ bounds
  pub period_is : follower.period ≡ period
  pub elapsed_is : follower.elapsed ≡ 0
  pub same_is : follower.same ≡ same
  pub other_is : follower.other ≡ other

-- Samples pass without an edge: the time that passed is so many whole cells, and what is left of it. The grids stay.
pub record Passed (old : Follower) (samples cells : ℕ) (new : Follower) : Type 0 where
  pub bounds_is : new.bounds ≡ old.bounds
  pub period_is : new.period ≡ old.period
  pub same_is : new.same ≡ old.same
  pub other_is : new.other ≡ old.other
  pub time : cells * old.period + new.elapsed ≡ old.elapsed + 65536 * samples

-- The place of an edge that comes now, on the grid of its direction, which was the other before it, and on the other
-- one. One more cell ends at the edge where it lies a half of one or more behind the cells told; that cell's time is
-- taken off.
abbrev pub ends_cell : Follower → Bool
ends_cell old = nat_le (old.period + old.bounds.low) (old.elapsed + old.other)

abbrev pub last_cell : Follower → ℕ
last_cell old = if ends_cell old then old.period else 0

abbrev pub place_of : Follower → ℕ
place_of old = old.elapsed + old.other - last_cell old

-- An edge: its direction's grid goes a sixteenth of the way to it, and the period goes with it by an 8192th, within its
-- bounds.
pub record Turned (old : Follower) (more : Bool) (new : Follower) : Type 0 where
  pub more_is : more ≡ ends_cell old
  pub bounds_is : new.bounds ≡ old.bounds
  pub elapsed_is : new.elapsed ≡ 0
  pub same_is : new.same ≡ place_of old - place_of old / 16 + middle_of old.bounds / 16
  pub other_is : new.other ≡ min (old.elapsed + old.same - last_cell old) (3 * old.bounds.low)
  pub period_is : new.period
      ≡ min (max (old.period + place_of old / 8192 - middle_of old.bounds / 8192) old.bounds.low) old.bounds.high

-- A follower counts so many cells of so many samples and the edge behind them.
pub record Counted (old : Follower) (samples cells : ℕ) (new : Follower) : Type 0 where
  pub told : ℕ
  pub more : Bool
  pub at : Follower
  pub passed : Passed old samples told at
  pub turned : Turned at more new
  pub sum : cells ≡ told + (if more then 1 else 0)

-- A follower counts so many cells of each of these runs of samples, one run after the other.
abbrev pub CountedAll : Follower → List ℕ → List ℕ → Follower → Type 0
CountedAll old [] [] new = new ≡ old
CountedAll old [] (n ∷ cells) new = ⊥
CountedAll old (run ∷ runs) [] new = ⊥
CountedAll old (run ∷ runs) (n ∷ cells) new =
    (next : Follower) × Counted old run n next × CountedAll next runs cells new

-- An edge comes behind so many samples, and ends so many cells, three at most; behind it the grids of both directions lie
-- half of the shortest cell apart at most.
pub record IsNear (old : Follower) (samples cells : ℕ) (new : Follower) : Type 0 where
  pub counted : Counted old samples cells new
  pub few : cells ≤ 3
  pub bounds_is : new.bounds ≡ old.bounds
  pub together : (new.same - new.other) + (new.other - new.same) ≤ new.bounds.low / 2

-- A follower counts so many cells of each of these runs of samples, one run after the other, and the edge behind each is
-- near its place: it lies there on the grid of its direction, once that has gone its way.
abbrev pub Tracked : Follower → List ℕ → List ℕ → List ℕ → Follower → Type 0
Tracked old [] [] [] new = new ≡ old
Tracked old [] [] (place ∷ places) new = ⊥
Tracked old [] (n ∷ cells) places new = ⊥
Tracked old (run ∷ runs) [] places new = ⊥
Tracked old (run ∷ runs) (n ∷ cells) [] new = ⊥
Tracked old (run ∷ runs) (n ∷ cells) (place ∷ places) new =
    (next : Follower) × IsNear old run n next × (next.same ≡ place) × Tracked next runs cells places new

-- two places lie at most this apart
pub record IsWithin (a b most : ℕ) : Type 0 where
  pub below : a ≤ b + most
  pub above : b ≤ a + most

-- The latest edge of the line was displaced by `displaced`; `run` has passed since, of which `given` cells are told.
-- `same` and `other` are the means of the displacements of edges of its direction and of the other.
pub record Follows (follower : Follower) (same other displaced run given : ℕ) : Type 0 where
  pub passed : given * follower.period + follower.elapsed ≡ run
  pub same_place : IsWithin (follower.same + same) (middle_of follower.bounds + displaced)
      (30 * wander follower.bounds + 32)
  pub other_place : IsWithin (follower.other + other) (middle_of follower.bounds + displaced)
      (31 * wander follower.bounds + 32)
  pub mean_near : IsWithin displaced same (follower.bounds.low / 2 - margin follower.bounds)

-- whatever line it follows, samples that pass are told as cells, and the line is still followed
abbrev pub Passes : Follower → ℕ → ℕ → Follower → Type 0
Passes old samples cells new = (same other displaced run given : ℕ) → Follows old same other displaced run given
    → Follows new same other displaced (run + 65536 * samples) (given + cells)

-- whatever line it follows, an edge ends the cells that the line has, and the line is followed from this edge on
abbrev pub Ends : Follower → Bool → Follower → Type 0
Ends old more new = (same other before run given cells displaced : ℕ) → Follows old same other before run given
    → IsRun old.bounds other before cells run displaced
    → (given + (if more then 1 else 0) ≡ cells) × Follows new (mean_with other displaced) same displaced 0 0

-- whatever line it follows, an edge behind samples ends the cells that the line has between it and the edge before, and
-- the line is followed from this edge on
abbrev pub Counts : Follower → ℕ → ℕ → Follower → Type 0
Counts old samples result new = (same other before cells displaced : ℕ) → Follows old same other before 0 0
    → IsRun old.bounds other before cells (65536 * samples) displaced
    → (result ≡ cells) × Follows new (mean_with other displaced) same displaced 0 0
