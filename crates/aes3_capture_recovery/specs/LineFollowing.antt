-- A line followed from an edge on.
use Rattle.std.specs.Prelude.{ℕ, List, ◌++◌, ◌≡◌, ◌<◌, ◌+◌, ◌^◌, Option, Result, replicate}
use Rattle.aes3_level.specs.declared.level.Level.{Level}
use Rattle.aes3_level.specs.Cells.{line, other, after}
use Rattle.aes3_capture.specs.declared.follower.Follower.{Follower}
use Rattle.aes3_capture.specs.Following.{Counted, CountedAll, Passed}
use Rattle.aes3_capture_recovery.specs.Endings.{level_if}
use Rattle.aes3_capture_recovery.specs.Queues.{Queued, Puts, waiting}
use Rattle.aes3_capture_recovery.specs.Runs.{runs_behind}
use Rattle.aes3_capture_recovery.specs.declared.line_follower.LineFollower.{LineFollower}

-- What a line follower has given of these levels, of which `left` are still to be taken: it began behind the cells
-- `front` with the follower `first` at an edge, where the line left the level `before`. Each run that an edge ended was
-- counted, in its order and once, and its cells given at its level; then the cells that are certain of `past` samples
-- behind the last edge.
pub record Followed (told : Option (List ℕ)) (begun : List ℕ) (front : List Level) (now : LineFollower)
    (first : Follower) (before : Level) (levels left : List Level) : Type 0 where
  pub runs : List ℕ
  pub counts : List ℕ
  pub past : ℕ
  pub given : ℕ
  pub at : Follower
  pub split : (more : List Level) → runs_behind (other before) 0 (levels ++ more)
      ≡ runs ++ runs_behind (level_if now.edges.high) (past + now.edges.run) (left ++ more)
  pub level : level_if now.edges.high ≡ other (after before counts)
  pub short : now.edges.run < 2 ^ 31
  pub counted : CountedAll first runs counts at
  pub passed : Passed at past given now.follower
  pub cells : Queued told begun now.queue.form (waiting now.queue)
      (front ++ (line before counts ++ replicate given (level_if now.edges.high)))

-- what a sink tells and what waits are, behind the cells `front`, cells that begin with these
pub record Gives (told : Option (List ℕ)) (begun : List ℕ) (front : List Level) (now : LineFollower)
    (cells : List Level) : Type 0 where
  pub more : List Level
  pub queued : Queued told begun now.queue.form (waiting now.queue) (front ++ (cells ++ more))

-- The cells of a run that an edge ended are put at its level.
pub record RunTold {A R E : Type 0} (taken : A → Option (List ℕ)) (old new : LineFollower) (before after : A)
    (result : Result R E) (run : ℕ) (level : Level) : Type 0 where
  pub cells : ℕ
  pub counted : Counted old.follower run cells new.follower
  pub puts : Puts taken old.queue new.queue before after result (replicate cells level)
  pub edges : new.edges ≡ old.edges

-- Cells are put that are certain of samples that waited.
pub record SomeTold {A R E : Type 0} (taken : A → Option (List ℕ)) (old new : LineFollower) (before after : A)
    (result : Result R E) : Type 0 where
  pub samples : ℕ
  pub cells : ℕ
  pub passed : Passed old.follower samples cells new.follower
  pub puts : Puts taken old.queue new.queue before after result (replicate cells (level_if old.edges.high))
  pub waits : samples + new.edges.run ≡ old.edges.run
  pub high : new.edges.high ≡ old.edges.high
  pub short : new.edges.run < 2 ^ 31
