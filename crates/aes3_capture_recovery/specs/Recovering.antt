-- What is recovered of samples, whatever they are.
use Rattle.std.specs.Prelude.{ℕ, suc, List, [], ◌∷◌, ◌++◌, ◌≡◌, ◌≤◌, ◌<◌, ◌+◌, ◌-◌, ◌*◌, ◌/◌, ◌^◌, ◌⊎◌}
use Rattle.std.specs.Prelude.{Option, true, false, length, replicate, min, take}
use Rattle.aes3_level.specs.declared.level.Level.{Level}
use Rattle.aes3_level.specs.declared.level.Level.TheVariants.{Low, High}
use Rattle.aes3_level.specs.Cells.{line, other, after}
use Rattle.aes3_cell.specs.declared.form.Form.{Form}
use Rattle.aes3_capture.specs.declared.follower.Follower.{Follower}
use Rattle.aes3_capture.specs.Following.{Counted, Passed}
use Rattle.aes3_capture_recovery.specs.Endings.{level_if}
use Rattle.aes3_capture_recovery.specs.Measuring.{IsAskedFor, IsMeasured}
use Rattle.aes3_capture_recovery.specs.Queues.{Queued, waiting}
use Rattle.aes3_capture_recovery.specs.declared.recovery.Recovery.{Recovery}
use Rattle.aes3_capture_recovery.specs.declared.recovery.State.TheVariants.{Following, Measuring}

-- how many samples lie in each run of one level, also in the last, behind which no edge comes; `run` samples of a level
-- came before these
abbrev pub runs_to_end : Level → ℕ → List Level → List ℕ
runs_to_end Low run [] = run ∷ []
runs_to_end High run [] = run ∷ []
runs_to_end Low run (Low ∷ levels) = runs_to_end Low (suc run) levels
runs_to_end High run (High ∷ levels) = runs_to_end High (suc run) levels
runs_to_end Low run (High ∷ levels) = run ∷ runs_to_end High 1 levels
runs_to_end High run (Low ∷ levels) = run ∷ runs_to_end Low 1 levels

-- the level of the first sample, and the runs of one level that samples have
abbrev pub first_level : List Level → Level
first_level [] = Low
first_level (level ∷ levels) = level

abbrev pub sample_runs : List Level → List ℕ
sample_runs levels = runs_to_end (first_level levels) 0 levels

-- a follower measured from the next of these runs, 128 of them at least
pub record IsMeasuredFrom (known : Option ℕ) (runs : List ℕ) (follower : Follower) : Type 0 where
  pub next : List ℕ
  pub others : List ℕ
  pub runs_are : next ++ others ≡ runs
  pub many : 128 ≤ length next
  pub measured : IsMeasured known next follower

-- Of each run of samples so many cells are counted: by the follower that counted the run before, or by one that was
-- measured from this run and those behind it.
abbrev pub Recounted : Option ℕ → Follower → List ℕ → List ℕ → Follower → Type 0
Recounted known old [] [] new = new ≡ old
Recounted known old [] (n ∷ cells) new = ⊥
Recounted known old (run ∷ runs) [] new = ⊥
Recounted known old (run ∷ runs) (n ∷ cells) new =
    (at : Follower) × (next : Follower) × ((at ≡ old) ⊎ IsMeasuredFrom known (run ∷ runs) at)
    × Counted at run n next × Recounted known next runs cells new

-- The follower that counts the first of these runs, behind `before`: one measured from these runs, or that of the
-- period that was asked for, and then no run is before.
abbrev pub Starts : Option ℕ → List ℕ → List ℕ → Follower → Type 0
Starts known before runs follower = ((before ≡ []) × IsAskedFor known follower) ⊎ IsMeasuredFrom known runs follower

-- how many samples runs have together
abbrev pub samples_of : List ℕ → ℕ
samples_of [] = 0
samples_of (run ∷ runs) = run + samples_of runs

-- the cells of samples that came before a line was found: of one level, as many as their time has of its first period,
-- where 2^64 - 1 parts of a sample are counted at most
abbrev pub first_cells : Level → List ℕ → Follower → List Level
first_cells level before start =
    replicate (min (65536 * min (samples_of before) (2 ^ 64 - 1)) (2 ^ 64 - 1) / start.period) (after level before)

-- The cells of these runs of samples, behind a sample of this level: those of the runs before a line was found, and for
-- each run behind those that are counted of it, at its level.
pub record AreCells (known : Option ℕ) (level : Level) (runs : List ℕ) (cells : List Level) : Type 0 where
  pub before : List ℕ
  pub behind : List ℕ
  pub runs_are : before ++ behind ≡ runs
  pub start : Follower
  pub last : Follower
  pub starts : Starts known before behind start
  pub counts : List ℕ
  pub counted : Recounted known start behind counts last
  pub cells_are : cells ≡ first_cells level before start ++ line (after level before) counts

-- The cells of these runs of samples, at the end. Where no period was asked for and no line was found, there are none, as
-- is told by how often one was measured.
abbrev pub AreEnded : Option ℕ → Level → List ℕ → List Level → Recovery → Type 0
AreEnded known level runs cells now =
    ((cells ≡ []) × (now.found ≡ false) × (now.figures.measured ≡ 0)) ⊎ AreCells known level runs cells

-- what is recovered of samples with these levels
abbrev pub AreRecovered : Option ℕ → List Level → List Level → Recovery → Type 0
AreRecovered known levels cells now = AreEnded known (other (first_level levels)) (sample_runs levels) cells now

-- what a sink told at the start, the form in which cells are written, and the period that was asked for
pub record Setting : Type 0 where
  pub begun : List ℕ
  pub form : Form
  pub known : Option ℕ

-- The runs `done` were told, before a line was found: their samples, and `past` samples of the run behind them, are
-- held.
pub record IsUnfound (told : Option (List ℕ)) (begun : List ℕ) (done : List ℕ) (past : ℕ)
    (now : Recovery) : Type 0 where
  pub found_is : now.found ≡ false
  pub none : now.figures.measured ≡ 0
  pub held : now.held ≡ min (samples_of done + past) (2 ^ 64 - 1)
  pub cells : Queued told begun now.line.queue.form (waiting now.line.queue) []

-- The runs `done` were told, behind a sample of this level: the cells of each were given, and those that are certain of
-- `past` samples of the run behind them.
pub record IsFound (told : Option (List ℕ)) (setting : Setting) (level : Level) (done : List ℕ) (past : ℕ)
    (now : Recovery) : Type 0 where
  pub found_is : now.found ≡ true
  pub before : List ℕ
  pub behind : List ℕ
  pub runs_are : before ++ behind ≡ done
  pub start : Follower
  pub at : Follower
  pub starts : Starts setting.known before behind start
  pub counts : List ℕ
  pub counted : Recounted setting.known start behind counts at
  pub given : ℕ
  pub passed : Passed at past given now.line.follower
  pub cells : Queued told setting.begun now.line.queue.form (waiting now.line.queue)
      (first_cells level before start
      ++ (line (after level before) counts ++ replicate given (other (after level done))))

pub record AreTold (told : Option (List ℕ)) (setting : Setting) (level : Level) (done : List ℕ) (past : ℕ)
    (now : Recovery) : Type 0 where
  pub form_is : now.line.queue.form ≡ setting.form
  pub known_is : now.known ≡ setting.known
  pub either : IsUnfound told setting.begun done past now ⊎ IsFound told setting level done past now

-- the runs that wait to be measured
abbrev pub runs_waiting : Recovery → List ℕ
runs_waiting now = take now.count now.runs

-- Runs wait only while a line is measured, and then no sample of the run behind them was told. A line that is followed
-- was found, and no sample behind its latest edge was told.
pub record IsInOrder (past : ℕ) (now : Recovery) : Type 0 where
  pub none_wait : (now.state ≡ Measuring → ⊥) → now.count ≡ 0
  pub none_past : now.state ≡ Measuring → past ≡ 0
  pub followed : now.state ≡ Following → now.found ≡ true
  pub none_followed : now.state ≡ Following → past ≡ 0

-- what was told so far
pub record Holds (told : Option (List ℕ)) (setting : Setting) (level : Level) (done : List ℕ)
    (past : ℕ) (now : Recovery) : Type 0 where
  pub order : IsInOrder past now
  pub told_is : AreTold told setting level done past now

-- These runs were ended by edges, behind a sample of this level, and so many samples came behind the last edge: each
-- run was told once and in order, but for those that wait to be measured and the samples that wait for an edge.
pub record StandsOn (told : Option (List ℕ)) (setting : Setting) (level : Level) (runs : List ℕ)
    (samples : ℕ) (now : Recovery) : Type 0 where
  pub done : List ℕ
  pub past : ℕ
  pub runs_are : done ++ runs_waiting now ≡ runs
  pub samples_are : past + now.line.edges.run ≡ samples
  pub turns : level_if now.line.edges.high ≡ other (after level runs)
  pub holds : Holds told setting level done past now

-- These runs were ended by edges, behind a sample of this level, and nothing of what came behind the last of them was
-- told: each run was told once and in order, but for those that wait to be measured.
pub record StandsBehind (told : Option (List ℕ)) (setting : Setting) (level : Level) (runs : List ℕ)
    (now : Recovery) : Type 0 where
  pub done : List ℕ
  pub runs_are : done ++ runs_waiting now ≡ runs
  pub holds : Holds told setting level done 0 now

-- what a recovery has told of samples with these levels, of which `left` are still to be taken
pub record Recovered (told : Option (List ℕ)) (setting : Setting) (levels left : List Level)
    (now : Recovery) : Type 0 where
  pub level : Level
  pub runs : List ℕ
  pub behind : ℕ
  pub split : (more : List Level) → runs_to_end (other level) 0 (levels ++ more)
      ≡ runs ++ runs_to_end (level_if now.line.edges.high) behind (left ++ more)
  pub first : other level ≡ first_level levels
  pub samples : now.figures.samples ≡ min (length levels) (2 ^ 64 - 1)
  pub short : now.line.edges.run < 2 ^ 31
  pub stands : StandsOn told setting level runs behind now
