-- What a caller in C is given of a capture.
use Rattle.std.specs.Prelude.{ℕ, List, [], ◌++◌, ◌≡◌, ◌≤◌, ◌%◌, ◌==◌, ◌↔◌, Bool, IsTrue, Option, None, Some, true, cond, length, min}
use Rattle.aes3_level.specs.declared.level.Level.{Level}
use Rattle.aes3_cell.specs.declared.form.Form.TheVariants.{Packed}
use Rattle.aes3_capture_recovery.specs.Beginning.{Awaits, BeginsWith, IsLastingBehind, IsLineBehind}
use Rattle.aes3_capture_recovery.specs.Levels.{levels_of_samples}
use Rattle.aes3_capture_recovery.specs.Recovering.{Setting}
use Rattle.aes3_capture_recovery.specs.Taking.{RecoveredAll, TookAll, WritesLine}
use Rattle.aes3_capture_recovery.specs.declared.edges.Unit.{Unit}
use Rattle.aes3_capture_recovery.specs.declared.edges.Unit.TheVariants.{Octets, Pairs}
use Rattle.aes3_capture_recovery.specs.declared.recovery.Recovery.{Recovery}
use Rattle.aes3_capture_recovery.specs.declared.recovery.State.TheVariants.{Following}
use Rattle.aes3_c.specs.Putting.{put_into}
use Rattle.aes3_c.specs.declared.capture.Aes3Capture.{Aes3Capture}

-- Samples of two octets, the lower first, where `octets` is 2, and else of one; and which bit of them is the line: of
-- a number that is too great for a sample's bits the rest counts.
abbrev pub unit_of : ℕ → ℕ → Unit
unit_of octets bit = cond (octets == 2) (Pairs (bit % 16)) (Octets (bit % 8))

-- a period is asked for where it is not 0
abbrev pub period_of : ℕ → Option ℕ
period_of period = cond (period == 0) None (Some period)

-- packed cells are written, and nothing before them
abbrev pub packed_by : ℕ → Setting
packed_by period = record { begun = []; form = Packed; known = period_of period }

-- A recovery took samples with these levels and then the end. Where it began with no line, and 256 runs behind the first
-- one are a capture in which a line can be found, one was found.
pub record RanOver {A : Type 0} (taken : A → Option (List ℕ)) (old new : Recovery) (before after : A)
    (levels : List Level) : Type 0 where
  pub took : TookAll taken old new before after levels
  pub finds : (setting : Setting) (seen : List Level) (first : ℕ) (window : List ℕ)
      → Awaits (taken before) setting seen [] old → BeginsWith setting.known (seen ++ levels) first window
      → 1 ≤ new.figures.measured

-- These octets are what a recovery writes of samples with these levels, packed, at their end: the cells of each run of
-- samples, once and in its order. If no period is asked for, and 256 runs behind the first one are a capture in which a
-- line can be found, one is found. Where it was measured once and is followed at the end, they are its cells; so it is if the line lasts.
pub record AreCellsOf (period : ℕ) (levels : List Level) (octets : List ℕ) (now : Recovery) : Type 0 where
  pub recovered : RecoveredAll (Some octets) (packed_by period) levels now
  pub finds : period ≡ 0 → (first : ℕ) (window : List ℕ) → BeginsWith None levels first window
      → 1 ≤ now.figures.measured
  pub joined : period ≡ 0 → now.state ≡ Following → now.figures.measured ≡ 1 → (first : ℕ) (counts : List ℕ)
      → IsLineBehind None levels first counts → WritesLine (Some octets) (packed_by period) levels first counts
  pub lasts : period ≡ 0 → (first : ℕ) (counts : List ℕ) → IsLastingBehind None levels first counts
      → (now.figures.measured ≡ 1) × WritesLine (Some octets) (packed_by period) levels first counts

-- the figures of a recovery, as the caller has them
pub record AreFigures (found : Aes3Capture) (now : Recovery) : Type 0 where
  pub samples : found.samples ≡ now.figures.samples
  pub cells : found.cells ≡ now.line.cells
  pub period : now.found ≡ true → found.period ≡ now.line.follower.period
  pub edges : found.edges ≡ now.figures.edges
  pub greatest : found.greatest ≡ now.figures.greatest
  pub squares : found.squares ≡ now.figures.squares
  pub dead : found.dead ≡ now.figures.dead
  pub dead_at : found.dead_at ≡ now.figures.dead_at
  pub measured : found.measured ≡ now.figures.measured

-- Of all whole samples of these octets: the packed cells, of which memory has as many octets as there is room for, with
-- what stood there behind them; how many these are, whether they are all, and the figures of the recovery.
pub record IsCaptured (unit bit period : ℕ) (samples old new : List ℕ) (found : Aes3Capture) (fits : Bool)
    : Type 0 where
  pub octets : List ℕ
  pub now : Recovery
  pub cells : AreCellsOf period (levels_of_samples (unit_of unit bit) samples) octets now
  pub put : new ≡ put_into old octets
  pub count : found.octets ≡ min (length octets) (length old)
  pub all_fit : IsTrue fits ↔ (length octets ≤ length old)
  pub figures : AreFigures found now
