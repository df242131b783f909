-- What a recovery does with samples, however they are cut.
use Rattle.std.specs.Prelude.{ℕ, List, [], ◌∷◌, ◌++◌, ◌≡◌, ◌≢◌, ◌≤◌, ◌<◌, ◌+◌, ◌-◌, ◌^◌, Option, Some, length, min}
use Rattle.aes3_level.specs.declared.level.Level.{Level}
use Rattle.aes3_level.specs.Cells.{line, other}
use Rattle.aes3_capture.specs.declared.follower.Bounds.{Bounds}
use Rattle.aes3_capture.specs.declared.follower.Follower.{Follower}
use Rattle.aes3_capture_recovery.specs.Beginning.{Awaits, IsLastingBehind, IsLineBehind}
use Rattle.aes3_capture_recovery.specs.Endings.{finished}
use Rattle.aes3_capture_recovery.specs.Keeping.{IsOnLine, StaysOnLine}
use Rattle.aes3_capture_recovery.specs.LineFollowing.{Followed}
use Rattle.aes3_capture_recovery.specs.Queues.{Writes}
use Rattle.aes3_capture_recovery.specs.Recovering.{AreRecovered, Recovered, Setting, first_cells, first_level}
use Rattle.aes3_capture_recovery.specs.declared.recovery.Recovery.{Recovery}
use Rattle.aes3_capture_recovery.specs.declared.recovery.State.TheVariants.{Following}

-- A recovery took samples with these levels, behind those that it had seen. A line is followed anew only where it was
-- measured anew. So one that is followed before and behind, and was not measured between, was followed all the time. One that goes on in
-- these samples within the bounds in which it can be kept is so.
pub record Took {A : Type 0} (taken : A → Option (List ℕ)) (old new : Recovery) (before after : A)
    (levels : List Level) : Type 0 where
  pub recovered : (setting : Setting) (seen : List Level) → Recovered (taken before) setting seen [] old
      → Recovered (taken after) setting (seen ++ levels) [] new
  pub awaits : (setting : Setting) (seen : List Level) → Awaits (taken before) setting seen [] old
      → Awaits (taken after) setting (seen ++ levels) [] new
  pub up : old.figures.measured ≤ new.figures.measured
  pub some : 1 ≤ old.figures.samples → 1 ≤ new.figures.samples
  pub begun : old.state ≢ Following → new.state ≡ Following → old.figures.measured + 1 < 2 ^ 64
      → old.figures.measured < new.figures.measured
  pub follows : old.state ≡ Following → new.state ≡ Following → new.figures.measured ≡ old.figures.measured
      → old.figures.measured + 1 < 2 ^ 64 → 1 ≤ old.figures.samples
      → (written : List ℕ) (front : List Level) (first : Follower) (cell : Level) (seen : List Level)
      → Followed (taken before) written front old.line first cell seen []
      → Followed (taken after) written front new.line first cell (seen ++ levels) []
  pub stays : (narrow : Bounds) (spread : ℕ) (more : List Level) → IsOnLine narrow spread (levels ++ more) old
      → StaysOnLine narrow spread more old new

-- what is recovered of samples with these levels, all of which a sink tells
pub record RecoveredAll (told : Option (List ℕ)) (setting : Setting) (levels : List Level) (now : Recovery) : Type 0 where
  pub cells : List Level
  pub recovered : AreRecovered setting.known levels cells now
  pub samples : now.figures.samples ≡ min (length levels) (2 ^ 64 - 1)
  pub tells : told ≡ Some (setting.begun ++ finished setting.form cells)

-- A sink tells cells as they are written at the end: those of the first run, by the period of some follower, then those of
-- `counts`, each run at its level, and then others.
pub record WritesLine (told : Option (List ℕ)) (setting : Setting) (levels : List Level) (first : ℕ) (counts : List ℕ)
    : Type 0 where
  pub start : Follower
  pub writes : Writes told setting.begun setting.form
      (first_cells (other (first_level levels)) (first ∷ []) start ++ line (first_level levels) counts)

-- It took samples with these levels and then the end. Where it had found its line in the first 256 runs behind one, and was
-- to follow it at the end, the line's cells are written. If the line lasts to the end, that is so.
pub record TookAll {A : Type 0} (taken : A → Option (List ℕ)) (old new : Recovery) (before after : A)
    (levels : List Level) : Type 0 where
  pub recovered : (setting : Setting) (seen : List Level) → Recovered (taken before) setting seen [] old
      → RecoveredAll (taken after) setting (seen ++ levels) new
  pub joined : new.state ≡ Following → new.figures.measured ≡ 1
      → (setting : Setting) (seen : List Level) (first : ℕ) (counts : List ℕ)
      → Awaits (taken before) setting seen [] old → IsLineBehind setting.known (seen ++ levels) first counts
      → WritesLine (taken after) setting (seen ++ levels) first counts
  pub lasts : (setting : Setting) (seen : List Level) (first : ℕ) (counts : List ℕ)
      → Awaits (taken before) setting seen [] old → IsLastingBehind setting.known (seen ++ levels) first counts
      → (new.figures.measured ≡ 1) × WritesLine (taken after) setting (seen ++ levels) first counts
