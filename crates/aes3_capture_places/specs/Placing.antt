-- Where the cells of a line are in its capture.
use Rattle.std.specs.Prelude.{ℕ, List, [], ◌++◌, ◌≡◌, ◌<◌, ◌≤◌, ◌+◌, ◌-◌, ◌*◌, ◌/◌, ◌^◌, ◌⊎◌, true, Option, Some, get_or, length, replicate}
use Rattle.aes3_level.specs.declared.level.Level.{Level}
use Rattle.aes3_level.specs.Cells.{after, line, other}
use Rattle.aes3_cell.specs.declared.form.Form.TheVariants.{Packed}
use Rattle.aes3_capture.specs.declared.follower.Follower.{Follower}
use Rattle.aes3_capture.specs.Following.{Passed}
use Rattle.aes3_capture_recovery.specs.Queues.{waiting}
use Rattle.aes3_capture_recovery.specs.declared.figures.Figures.{Figures}
use Rattle.aes3_capture_recovery.specs.declared.recovery.Recovery.{Recovery}
use Rattle.aes3_capture_recovery.specs.Recovering.{Recounted, Recovered, Starts, first_cells, first_level, sample_runs, samples_of}
use Rattle.aes3_capture_places.specs.Marks.{between, no_mark}
use Rattle.aes3_capture_places.specs.declared.marks.Mark.{Mark}
use Rattle.aes3_capture_places.specs.declared.places.Places.{Places}
use Rattle.aes3_capture_places.specs.declared.placing.Outcome.{Outcome}

-- The cells that a recovery gives of the runs `done`, behind a sample of this level, and then those that are certain of
-- `past` samples of the run behind them.
pub record AreGiven (known : Option ℕ) (level : Level) (done : List ℕ) (past : ℕ) (cells : List Level) : Type 0 where
  pub before : List ℕ
  pub behind : List ℕ
  pub runs_are : before ++ behind ≡ done
  pub start : Follower
  pub at : Follower
  pub last : Follower
  pub starts : Starts known before behind start
  pub counts : List ℕ
  pub counted : Recounted known start behind counts at
  pub given : ℕ
  pub passed : Passed at past given last
  pub cells_are : cells ≡ first_cells level before start
      ++ (line (after level before) counts ++ replicate given (other (after level done)))

-- The first `cells` cells that are recovered of samples with these levels, whatever samples come behind them, are those
-- of the first `samples` samples: of whole runs, and of the samples that the run behind them begins with.
pub record IsMarked (known : Option ℕ) (levels : List Level) (cells samples : ℕ) : Type 0 where
  pub some : 1 ≤ length levels
  pub done : List ℕ
  pub past : ℕ
  pub next : List Level → List ℕ
  pub split : (more : List Level) → sample_runs (levels ++ more) ≡ done ++ next more
  pub begun : (more : List Level) → past ≤ get_or (next more) 0 0
  pub samples_are : samples_of done + past ≡ samples
  pub given : List Level
  pub given_are : AreGiven known (other (first_level levels)) done past given
  pub cells_are : length given ≡ cells

-- before the first cell, or as above
abbrev pub IsMark : Option ℕ → List Level → Mark → Type 0
IsMark known levels mark = (mark ≡ no_mark) ⊎ IsMarked known levels mark.cells mark.samples

-- The sample of a cell: it lies between two marks, the one up to the cell and the other after it, and the samples
-- between them are shared out evenly to their cells.
pub record IsPlace (known : Option ℕ) (levels : List Level) (cell sample : ℕ) : Type 0 where
  pub before : Mark
  pub after : Mark
  pub is_before : IsMark known levels before
  pub is_after : IsMark known levels after
  pub from : before.cells ≤ cell
  pub to : cell < after.cells
  pub sample_is : sample ≡ between before after cell

-- samples with these levels were taken, from the first of a capture on, and each mark that is kept is one
pub record ArePlaced (known : Option ℕ) (levels : List Level) (now : Places) : Type 0 where
  pub recovered : Recovered (Some now.count.given.octets) (record { begun = []; form = Packed; known = known }) levels []
      now.recovery
  pub marks : (i : ℕ) → i < 4096 → IsMark known levels (get_or now.marks.kept i no_mark)

-- the latest mark is one of those that are kept
abbrev pub KeepsLatest : Places → Type 0
KeepsLatest now = (i : ℕ) × (i < 4096) × (get_or now.marks.kept i no_mark ≡ now.latest)

-- how many cells were given: those of all octets, and those that wait
abbrev pub cells_given : Places → ℕ
cells_given now = 8 * length now.count.given.octets + length (waiting now.recovery.line.queue)

-- The latest mark is kept. Of a line that was found in some samples, fewer than 64 cells were given behind it.
pub record IsClose (levels : List Level) (now : Places) : Type 0 where
  pub kept : KeepsLatest now
  pub close : now.recovery.found ≡ true → 1 ≤ length levels → length now.count.given.octets < 2 ^ 56
      → cells_given now < now.latest.cells + 64

-- what was found of a line, as its recovery has it
pub record AreFigures (now : Recovery) (figures : Figures) : Type 0 where
  pub samples : figures.samples ≡ now.figures.samples
  pub cells : figures.cells ≡ now.line.cells
  pub period : now.found ≡ true → figures.period ≡ now.line.follower.period
  pub edges : figures.edges ≡ now.figures.edges
  pub greatest : figures.greatest ≡ now.figures.greatest
  pub squares : figures.squares ≡ now.figures.squares
  pub dead : figures.dead ≡ now.figures.dead
  pub dead_at : figures.dead_at ≡ now.figures.dead_at
  pub measured : figures.measured ≡ now.figures.measured
  pub misses : figures.misses ≡ now.figures.misses

-- how many parts of a sample lie between the latest mark and a cell, if each cell has the present length
abbrev pub parts_after : Places → ℕ → ℕ
parts_after now cell = (cell - now.latest.cells) * now.recovery.line.follower.period

-- the sample of a cell after the latest mark, by that length
abbrev pub sample_after : Places → ℕ → ℕ
sample_after now cell = now.latest.samples + parts_after now cell / 65536

-- the cell comes before the latest mark, or after the last sample, or the time up to it is too long for 64 bits
abbrev pub IsOutOfReach : Places → ℕ → Type 0
IsOutOfReach now cell =
    (cell < now.latest.cells) ⊎ (now.recovery.figures.samples < sample_after now cell)
    ⊎ (2 ^ 64 ≤ parts_after now cell)

-- the counts of a report before its first octet
abbrev pub nothing_read : Outcome
nothing_read = record { octets = 0; found = 0; missing = 0 }
