-- How a recovery begins to follow a line.
use Rattle.std.specs.Prelude.{ℕ, List, [], ◌∷◌, ◌++◌, ◌+◌, ◌≡◌, ◌≤◌, ◌<◌, ◌*◌, Option, None, false, drop, length, take}
use Rattle.aes3_level.specs.declared.level.Level.{Level}
use Rattle.aes3_level.specs.Cells.{line, other, after}
use Rattle.aes3_capture.specs.declared.follower.Bounds.{Bounds}
use Rattle.aes3_capture.specs.declared.follower.Follower.{Follower}
use Rattle.aes3_capture.specs.Captures.{SpreadsLate}
use Rattle.aes3_capture.specs.Following.{CountedAll}
use Rattle.aes3_capture_recovery.specs.Finding.{AllowsCells, AreCapturedRuns, AreOfManySubframes, FollowsLine, IsFindable, IsLasting}
use Rattle.aes3_capture_recovery.specs.Keeping.{IsKept}
use Rattle.aes3_capture_recovery.specs.LineFollowing.{Followed, Gives}
use Rattle.aes3_capture_recovery.specs.Measuring.{IsMeasured}
use Rattle.aes3_capture_recovery.specs.Queues.{Queued, waiting}
use Rattle.aes3_capture_recovery.specs.Recovering.{Recovered, Setting, first_cells, first_level, sample_runs}
use Rattle.aes3_capture_recovery.specs.Runs.{runs_behind}
use Rattle.aes3_capture_recovery.specs.declared.recovery.Recovery.{Recovery}
use Rattle.aes3_capture_recovery.specs.declared.recovery.State.TheVariants.{Following, Measuring, Still}

-- a follower measured from these 256 runs of samples, which follows their line from its first edge on, if they are a
-- capture of subframes in which a line can be found
pub record IsFoundIn (known : Option ℕ) (window : List ℕ) (start : Follower) : Type 0 where
  pub many : length window ≡ 256
  pub measured : IsMeasured known window start
  pub found : (narrow : Bounds) (spread late later place side : ℕ) (places cells : List ℕ)
      → AreCapturedRuns narrow spread late later place side places cells window → AllowsCells known narrow
      → FollowsLine known narrow spread late later places start

-- A recovery found its line in the runs `window`, behind the runs `before`: it gave the cells of `before`, and then those
-- that the follower which it found counts of `window`. No edge was noted yet.
pub record Begun (told : Option (List ℕ)) (setting : Setting) (level : Level) (before window : List ℕ)
    (now : Recovery) : Type 0 where
  pub start : Follower
  pub found : IsFoundIn setting.known window start
  pub counts : List ℕ
  pub counted : CountedAll start window counts now.line.follower
  pub fresh : now.spread ≡ 0
  pub cells : Queued told setting.begun now.line.queue.form (waiting now.line.queue)
      (first_cells level before start ++ line (after level before) counts)

-- Samples with these levels, of which `left` are still to be taken, are followed from the runs `window` on: behind the
-- samples of the runs `before` come those `since`, which begin with the 256 runs `window`. From the first edge of `window`
-- on the line is followed with the follower that was found in them, behind the cells of `before`.
pub record FollowsFrom (told : Option (List ℕ)) (setting : Setting) (level : Level) (before window : List ℕ)
    (levels left : List Level) (now : Recovery) : Type 0 where
  pub since : List Level
  pub samples : line level before ++ since ≡ levels
  pub others : List ℕ
  pub runs_are : runs_behind (other (after level before)) 0 since ≡ window ++ others
  pub start : Follower
  pub found : IsFoundIn setting.known window start
  pub followed : Followed told setting.begun (first_cells level before start) now.line start (after level before) since
      left

-- so, from some 256 runs on
pub record Began (told : Option (List ℕ)) (setting : Setting) (levels left : List Level) (now : Recovery) : Type 0 where
  pub level : Level
  pub first : other level ≡ first_level levels
  pub before : List ℕ
  pub window : List ℕ
  pub from : FollowsFrom told setting level before window levels left now

-- each of these runs is so short that a line of which no cell is known does not count as dead
abbrev pub AreShort : List ℕ → Type 0
AreShort [] = Unit {0}
AreShort (run ∷ runs) = (run < 524288) × AreShort runs

-- These 256 runs of samples are a capture of subframes in which a line can be found, and none is too long.
pub record AreFindable (known : Option ℕ) (window : List ℕ) : Type 0 where
  pub narrow : Bounds
  pub spread : ℕ
  pub late : ℕ
  pub later : ℕ
  pub place : ℕ
  pub side : ℕ
  pub places : List ℕ
  pub cells : List ℕ
  pub captured : AreCapturedRuns narrow spread late later place side places cells window
  pub allows : AllowsCells known narrow
  pub short : AreShort window

-- Samples with these levels are a first run, then 256 runs in which a line can be found, and then any.
pub record BeginsWith (known : Option ℕ) (levels : List Level) (first : ℕ) (window : List ℕ) : Type 0 where
  pub more : List ℕ
  pub runs_are : runs_behind (first_level levels) 0 levels ≡ first ∷ (window ++ more)
  pub findable : AreFindable known window

-- Samples with these levels end at most 64 samples behind the last edge of these 256 runs.
pub record EndsWith (known : Option ℕ) (levels : List Level) (first : ℕ) (window : List ℕ) : Type 0 where
  pub behind : ℕ
  pub few : behind ≤ 64
  pub runs_are : sample_runs levels ≡ first ∷ (window ++ behind ∷ [])
  pub findable : AreFindable known window

-- The runs `window` and `more` are a capture of the runs of cells `counts`. In `window` the line can be found, where no period is asked
-- for, and once it was found it lasts.
pub record IsLastingLine (known : Option ℕ) (narrow : Bounds) (spread : ℕ) (counts window more : List ℕ) : Type 0 where
  pub unasked : known ≡ None
  pub long : length window ≡ 256
  pub short : AreShort window
  pub late : ℕ
  pub later : ℕ
  pub displaced : ℕ
  pub captured : SpreadsLate narrow spread late later displaced counts (window ++ more)
  pub place : ℕ
  pub side : ℕ
  pub many : AreOfManySubframes place side (take 256 counts)
  pub findable : IsFindable narrow spread late later
  pub lasting : IsLasting narrow spread late later

-- A line was found once and is followed, and the runs ahead go on with it.
pub record IsKeptSince (narrow : Bounds) (spread : ℕ) (ahead : List ℕ) (now : Recovery) : Type 0 where
  pub state : now.state ≡ Following
  pub once : now.figures.measured ≡ 1
  pub kept : IsKept now.line.follower now.spread narrow spread ahead

-- No line was found yet, and all of these runs but the first wait to be measured.
pub record IsWaiting (runs : List ℕ) (now : Recovery) : Type 0 where
  pub unfound : now.found ≡ false
  pub none : runs ≡ [] → (now.state ≡ Still) × (now.count ≡ 0)
  pub some : 1 ≤ length runs → (now.state ≡ Measuring) × (now.count + 1 ≡ length runs)

-- What a recovery that begins with no line is, by the samples that came: until there are 256 runs behind the first one,
-- and none of them was too long, they wait to be measured. If a line can be found in these, one was found; and from these
-- on it is followed, while it is not measured anew; so it is for as long as the line lasts and fewer samples than 63 cells have wait.
pub record Awaits (told : Option (List ℕ)) (setting : Setting) (levels left : List Level) (now : Recovery) : Type 0 where
  pub recovered : Recovered told setting levels left now
  pub waits : AreShort (drop 1 (recovered.runs ++ recovered.behind ∷ [])) → length recovered.runs ≤ 256
      → IsWaiting recovered.runs now
  pub finds : (first : ℕ) (window more : List ℕ) → recovered.runs ≡ first ∷ (window ++ more)
      → AreFindable setting.known window → 1 ≤ now.figures.measured
  pub starts : (first : ℕ) (window : List ℕ) → recovered.runs ≡ first ∷ window → AreFindable setting.known window
      → recovered.behind ≤ 64 → (now.state ≡ Following) × (now.figures.measured ≡ 1)
  pub joins : now.state ≡ Following → now.figures.measured ≡ 1
      → (first : ℕ) (window more : List ℕ) → recovered.runs ≡ first ∷ (window ++ more)
      → AreFindable setting.known window
      → FollowsFrom told setting recovered.level (first ∷ []) window levels left now
  pub stays : (narrow : Bounds) (spread first : ℕ) (counts window others ahead : List ℕ)
      → recovered.runs ≡ first ∷ (window ++ others)
      → IsLastingLine setting.known narrow spread counts window (others ++ ahead)
      → 65536 * recovered.behind < 63 * narrow.low → IsKeptSince narrow spread ahead now

-- Samples with these levels are a first run and then a capture of the runs of cells `counts`: the first 256 of these are
-- such as a line can be found in, by how far the edges lie from their places, and none of their runs is too long.
pub record IsLineBehind (known : Option ℕ) (levels : List Level) (first : ℕ) (counts : List ℕ) : Type 0 where
  pub window : List ℕ
  pub more : List ℕ
  pub runs_are : runs_behind (first_level levels) 0 levels ≡ first ∷ (window ++ more)
  pub long : length window ≡ 256
  pub short : AreShort window
  pub narrow : Bounds
  pub spread : ℕ
  pub late : ℕ
  pub later : ℕ
  pub displaced : ℕ
  pub captured : SpreadsLate narrow spread late later displaced counts (window ++ more)
  pub place : ℕ
  pub side : ℕ
  pub many : AreOfManySubframes place side (take 256 counts)
  pub findable : IsFindable narrow spread late later
  pub allows : AllowsCells known narrow

-- The cells of the first run were given, by the period of some follower, and then those of `counts`, each run at its level.
pub record GivesLine (told : Option (List ℕ)) (setting : Setting) (levels : List Level) (first : ℕ) (counts : List ℕ)
    (now : Recovery) : Type 0 where
  pub start : Follower
  pub gives : Gives told setting.begun (first_cells (other (first_level levels)) (first ∷ []) start) now.line
      (line (first_level levels) counts)

-- Samples with these levels are a first run, then a capture of the runs of cells `counts` in whose first 256 runs the line is found,
-- and which lasts, and then fewer samples than 63 cells have.
pub record IsLastingBehind (known : Option ℕ) (levels : List Level) (first : ℕ) (counts : List ℕ) : Type 0 where
  pub window : List ℕ
  pub more : List ℕ
  pub behind : ℕ
  pub runs_are : sample_runs levels ≡ first ∷ (window ++ (more ++ behind ∷ []))
  pub narrow : Bounds
  pub spread : ℕ
  pub line : IsLastingLine known narrow spread counts window more
  pub alive : 65536 * behind < 63 * narrow.low

-- The line was found in the first of these samples, and is followed; the cells of the first run and then those of `counts` were given.
pub record KeepsLine (told : Option (List ℕ)) (setting : Setting) (levels : List Level) (first : ℕ) (counts : List ℕ)
    (now : Recovery) : Type 0 where
  pub state : now.state ≡ Following
  pub once : now.figures.measured ≡ 1
  pub gives : GivesLine told setting levels first counts now
