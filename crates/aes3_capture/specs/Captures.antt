-- A capture of a line: how long the samples lay between one edge and the next, against the cells that the line has
-- there. Each length is in parts of a sample, 65536 to one.
use Rattle.std.specs.Prelude.{ℕ, zero, suc, List, [], ◌∷◌, ◌≡◌, ◌<◌, ◌≤◌, ◌+◌, ◌-◌, ◌*◌, ◌/◌, ◌%◌, ◌⊎◌, get_or, length, nat_eq}
use Rattle.std.specs.Prelude.{if◌then◌else◌}
use Rattle.aes3_capture.specs.declared.follower.Bounds.{Bounds}

-- how far three cells of unknown length can carry an edge
abbrev pub wander : Bounds → ℕ
wander bounds = 3 * (bounds.high - bounds.low)

-- how far the follower's place for an edge is from the mean of the displacements, by wander and by rounding
abbrev pub margin : Bounds → ℕ
margin bounds = 32 * wander bounds + 32

-- the mean of the displacements of edges of one direction, where the latest weighs a sixteenth
abbrev pub mean_with : ℕ → ℕ → ℕ
mean_with mean displaced = mean - mean / 16 + displaced / 16

-- two places lie less than this apart
pub record IsCloser (a b less : ℕ) : Type 0 where
  pub below : a < b + less
  pub above : b < a + less

-- a place lies at most so far behind the first
pub record IsBetween (first place spread : ℕ) : Type 0 where
  pub least : first ≤ place
  pub most : place ≤ first + spread

-- These samples lie between an edge displaced by `before` and the next, displaced by `displaced`, with one to three
-- cells between their places, each as long as the bounds allow. Displacements count from a place before each edge, so
-- that they are natural numbers.
pub record IsPlaced (bounds : Bounds) (before cells run displaced : ℕ) : Type 0 where
  pub some : 1 ≤ cells
  pub few : cells ≤ 3
  pub step : ℕ
  pub longest : step ≤ cells * bounds.high
  pub shortest : cells * bounds.low ≤ step
  pub between : run + before ≡ step + displaced

-- The next edge is less than half a cell, less the margin, from the mean of those of its direction, and less than a
-- cell, less the wander, from the edge before.
pub record IsRun (bounds : Bounds) (mean before cells run displaced : ℕ) : Type 0 where
  pub placed : IsPlaced bounds before cells run displaced
  pub mean_near : IsCloser displaced mean (bounds.low / 2 - margin bounds)
  pub before_near : IsCloser displaced before (bounds.low - wander bounds)

-- These runs of samples are a capture of these runs of cells, from an edge displaced by `before` on. `same` and `other`
-- are the means of the displacements of edges of its direction and of the other.
abbrev pub Captures : Bounds → ℕ → ℕ → ℕ → List ℕ → List ℕ → Type 0
Captures bounds same other before [] [] = Unit {0}
Captures bounds same other before [] (run ∷ runs) = ⊥
Captures bounds same other before (n ∷ cells) [] = ⊥
Captures bounds same other before (n ∷ cells) (run ∷ runs) =
    (displaced : ℕ) × IsRun bounds other before n (65536 * run) displaced
    × Captures bounds (mean_with other displaced) same displaced cells runs

-- These runs of samples are a capture of these runs of cells, from an edge displaced by `before` on, in which no edge
-- is displaced by more than `spread`, whatever form its displacements have.
abbrev pub Spreads : Bounds → ℕ → ℕ → List ℕ → List ℕ → Type 0
Spreads bounds spread before [] [] = before ≤ spread
Spreads bounds spread before [] (run ∷ runs) = ⊥
Spreads bounds spread before (n ∷ cells) [] = ⊥
Spreads bounds spread before (n ∷ cells) (run ∷ runs) =
    (displaced : ℕ) × (before ≤ spread) × IsPlaced bounds before n (65536 * run) displaced
    × Spreads bounds spread displaced cells runs

-- These runs of samples are a capture of these runs of cells, from an edge displaced by `before` on. The displacements
-- of edges of its direction are `late` at least and pass it by `spread` at most, those of the other direction likewise
-- pass `later`. Where the falling edges are late as a whole, one of the two is by how much they are, and the other 0.
abbrev pub SpreadsLate : Bounds → ℕ → ℕ → ℕ → ℕ → List ℕ → List ℕ → Type 0
SpreadsLate bounds spread late later before [] [] = Unit {0}
SpreadsLate bounds spread late later before [] (run ∷ runs) = ⊥
SpreadsLate bounds spread late later before (n ∷ cells) [] = ⊥
SpreadsLate bounds spread late later before (n ∷ cells) (run ∷ runs) =
    (displaced : ℕ) × IsBetween late before spread × IsBetween later displaced spread
    × IsPlaced bounds before n (65536 * run) displaced
    × SpreadsLate bounds spread later late displaced cells runs

-- the sum of the first `i` of these
abbrev pub sum_to : List ℕ → ℕ → ℕ
sum_to xs zero = 0
sum_to [] (suc i) = 0
sum_to (x ∷ xs) (suc i) = x + sum_to xs i

-- by how much an edge is late as a whole, by its number: those of one direction have even numbers
abbrev pub lateness : ℕ → ℕ → ℕ → ℕ
lateness late later i = if nat_eq (i % 2) 0 then late else later

-- The same by numbers: `places` has the displacement of the edge before each run, and of the one behind the last.
pub record AreDisplaced (bounds : Bounds) (spread late later : ℕ) (places cells runs : List ℕ) : Type 0 where
  pub places_count : length places ≡ length runs + 1
  pub cells_count : length cells ≡ length runs
  pub placed : (i : ℕ) → i < length runs
      → IsPlaced bounds (get_or places i 0) (get_or cells i 0) (65536 * get_or runs i 0) (get_or places (i + 1) 0)
  pub side : (i : ℕ) → i ≤ length runs → IsBetween (lateness late later i) (get_or places i 0) spread

-- cells may be so much longer or shorter than a period: one part in `part` of it
pub record IsAbout (bounds : Bounds) (period part : ℕ) : Type 0 where
  pub low : bounds.low ≡ period - period / part
  pub high : bounds.high ≡ period + period / part

-- From so many samples a cell on, in parts of one, AES3's jitter of high frequencies is borne whatever its form: from
-- 16.2 samples on where cells may be a 1024th longer or shorter, from 6.5 on with a 2048th, from 4.5 on with an 8192nd.
abbrev pub IsEnough : ℕ → ℕ → Type 0
IsEnough part period = ((part ≡ 1024) × (1061684 ≤ period)) ⊎ ((part ≡ 2048) × (425984 ≤ period))
    ⊎ ((part ≡ 8192) × (294912 ≤ period))

-- that jitter and the sampling: a quarter of a cell from peak to peak, and a sample
abbrev pub tolerance : ℕ → ℕ
tolerance period = period / 4 + 65536
