-- The steps of a recovery.
use Rattle.std.specs.Prelude.{ℕ, List, [], ◌++◌, ◌≡◌, ◌<◌, ◌≤◌, ◌+◌, ◌-◌, ◌*◌, ◌/◌, ◌^◌}
use Rattle.std.specs.Prelude.{Option, true, false, max, min, take}
use Rattle.aes3_level.specs.declared.level.Level.{Level}
use Rattle.aes3_level.specs.Cells.{line}
use Rattle.aes3_capture.specs.declared.follower.Follower.{Follower}
use Rattle.aes3_capture.specs.Following.{CountedAll, middle_of}
use Rattle.aes3_capture_recovery.specs.Distances.{spread_after}
use Rattle.aes3_capture_recovery.specs.Recovering.{samples_of}
use Rattle.aes3_capture_recovery.specs.Queues.{Queued, waiting}
use Rattle.aes3_capture_recovery.specs.declared.line_follower.LineFollower.{LineFollower}
use Rattle.aes3_capture_recovery.specs.declared.edges.Distances.{Distances}
use Rattle.aes3_capture_recovery.specs.declared.recovery.Recovery.{Recovery}
use Rattle.aes3_capture_recovery.specs.declared.recovery.State.TheVariants.{Measuring}

-- these cells were given behind all others
pub record Gave {A : Type 0} (taken : A → Option (List ℕ)) (old new : LineFollower) (before after : A)
    (cells : List Level) : Type 0 where
  pub form_is : new.queue.form ≡ old.queue.form
  pub each : (begun : List ℕ) (all : List Level)
      → Queued (taken before) begun old.queue.form (waiting old.queue) all
      → Queued (taken after) begun new.queue.form (waiting new.queue) (all ++ cells)

-- Of these runs the cells were given that a follower counts, the first behind a cell of this level.
pub record RunsCounted {A : Type 0} (taken : A → Option (List ℕ)) (old new : LineFollower) (before after : A)
    (level : Level) (runs : List ℕ) : Type 0 where
  pub counts : List ℕ
  pub counted : CountedAll old.follower runs counts new.follower
  pub gave : Gave taken old new before after (line level counts)

-- these samples are held, and nothing was given
pub record SamplesHeld {A : Type 0} (taken : A → Option (List ℕ)) (old new : Recovery) (before after : A)
    (samples : ℕ) : Type 0 where
  pub held : new.held ≡ min (old.held + samples) (2 ^ 64 - 1)
  pub gave : Gave taken old.line new.line before after []

-- these runs were told, behind a sample of this level
pub record RunsTold {A : Type 0} (taken : A → Option (List ℕ)) (old new : Recovery) (before after : A)
    (level : Level) (runs : List ℕ) : Type 0 where
  pub found : old.found ≡ true → RunsCounted taken old.line new.line before after level runs
  pub unfound : old.found ≡ false → SamplesHeld taken old new before after (samples_of runs)

-- all but the line, the samples that are held and the state is as it was
pub record KeepsRuns (old new : Recovery) : Type 0 where
  pub found_is : new.found ≡ old.found
  pub known_is : new.known ≡ old.known
  pub count_is : new.count ≡ old.count
  pub runs_are : new.runs ≡ old.runs
  pub samples_are : new.figures.samples ≡ old.figures.samples
  pub measured_is : new.figures.measured ≡ old.figures.measured
  pub edges_are : new.line.edges ≡ old.line.edges

-- what was told, and what it was told by, is as it was
pub record KeepsTold (old new : Recovery) : Type 0 where
  pub found_is : new.found ≡ old.found
  pub known_is : new.known ≡ old.known
  pub held_is : new.held ≡ old.held
  pub count_is : new.count ≡ old.count
  pub runs_are : new.runs ≡ old.runs
  pub measured_is : new.figures.measured ≡ old.figures.measured
  pub queue_is : new.line.queue ≡ old.line.queue
  pub follower_is : new.line.follower ≡ old.line.follower

-- how far the latest edge was from its place, in 256ths of a sample: the grid has gone a sixteenth of the way to it since
abbrev pub left_of : Follower → ℕ
left_of f = ((f.same - middle_of f.bounds) + (middle_of f.bounds - f.same)) / 256

abbrev pub distance_of : Follower → ℕ
distance_of f = left_of f + left_of f / 15

-- how far the places of rising and falling edges have moved apart
abbrev pub apart_of : Follower → ℕ
apart_of f = (f.same - f.other) + (f.other - f.same)

-- The latest edge of a line that is followed was noted, by the follower that counted the run before it: how far the edge
-- was from its place is in the figures and in the mean. Where that mean is more than a fifth of a cell, or rising and
-- falling edges have slipped, the line is measured next; where not, the state stays. All else but the line is as it was.
pub record Noted (old new : Recovery) : Type 0 where
  pub edges : new.figures.edges ≡ min (old.figures.edges + 1) (2 ^ 64 - 1)
  pub greatest : new.figures.greatest ≡ max old.figures.greatest (distance_of new.line.follower)
  pub squares : new.figures.squares ≡ min (old.figures.squares
      + distance_of new.line.follower * distance_of new.line.follower) (2 ^ 64 - 1)
  pub spread : new.spread ≡ min (old.spread - old.spread / 256 + distance_of new.line.follower) (2 ^ 32)
  pub lost : new.line.follower.period / 5 < new.spread → new.state ≡ Measuring
  pub slipped : new.line.follower.bounds.low / 2 < apart_of new.line.follower → new.state ≡ Measuring
  pub kept : new.spread ≤ new.line.follower.period / 5
      → apart_of new.line.follower ≤ new.line.follower.bounds.low / 2 → new.state ≡ old.state
  pub held_is : new.held ≡ old.held
  pub cells_are : new.figures.cells ≡ old.figures.cells
  pub period_is : new.figures.period ≡ old.figures.period
  pub dead_is : new.figures.dead ≡ old.figures.dead
  pub dead_at_is : new.figures.dead_at ≡ old.figures.dead_at
  pub misses_are : new.figures.misses ≡ old.figures.misses
  pub keeps : KeepsRuns old new

-- So many edges of a line that is followed were noted, with how far each was from its place: the figures and the mean are
-- what they are when each is noted behind the one before it, and all else is as it was.
pub record NotedAll (distances : Distances) (count : ℕ) (old new : Recovery) : Type 0 where
  pub edges : new.figures.edges ≡ min (old.figures.edges + count) (2 ^ 64 - 1)
  pub greatest : new.figures.greatest ≡ max old.figures.greatest distances.greatest
  pub squares : new.figures.squares ≡ min (old.figures.squares + distances.squares) (2 ^ 64 - 1)
  pub spread : new.spread ≡ spread_after old.spread (take count distances.each)
  pub line_is : new.line ≡ old.line
  pub state_is : new.state ≡ old.state
  pub held_is : new.held ≡ old.held
  pub cells_are : new.figures.cells ≡ old.figures.cells
  pub period_is : new.figures.period ≡ old.figures.period
  pub dead_is : new.figures.dead ≡ old.figures.dead
  pub dead_at_is : new.figures.dead_at ≡ old.figures.dead_at
  pub misses_are : new.figures.misses ≡ old.figures.misses
  pub keeps : KeepsRuns old new
