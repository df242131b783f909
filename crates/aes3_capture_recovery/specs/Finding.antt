-- The runs of samples of a line, from which it is found.
use Rattle.std.specs.Prelude.{ℕ, zero, suc, List, Option, Some, None, ◌≡◌, ◌<◌, ◌≤◌, ◌+◌, ◌-◌, ◌*◌, ◌/◌, ◌%◌, ◌^◌, min, nat_le, if◌then◌else◌, get_or, length, take}
use Rattle.aes3_capture.specs.declared.follower.Bounds.{Bounds}
use Rattle.aes3_capture.specs.declared.follower.Follower.{Follower}
use Rattle.aes3_capture.specs.Captures.{AreDisplaced, IsAbout, IsBetween, SpreadsLate, sum_to}
use Rattle.aes3_capture.specs.Directions.{IsAt, IsBorne, IsWider}
use Rattle.aes3_capture.specs.Following.{CountedAll}
use Rattle.aes3_capture_recovery.specs.declared.period.Anchor.{Anchor}
use Rattle.aes3_capture_recovery.specs.Measuring.{place_at, places_from, preambles_from}

-- These runs of samples have these runs of cells, each cell as `narrow` says; a follower with these bounds bears how far the edges lie
-- from their places.
pub record AreOfALine (narrow bounds : Bounds) (spread late later : ℕ) (places cells runs : List ℕ) : Type 0 where
  pub displaced : AreDisplaced narrow spread late later places cells runs
  pub wide : IsWider bounds narrow
  pub borne : IsBorne bounds spread late later

-- These runs of cells are those of subframes, where the first begins so many cells behind the beginning of one: a preamble begins each.
pub record AreOfSubframes (place : ℕ) (line : List ℕ) : Type 0 where
  pub within : place < 64
  pub all : places_from place (take (length line - 3) line) ≤ preambles_from place line
  pub enough : 3 ≤ preambles_from place line

-- A follower of the line from its first edge on, which bears it for as long as its cells and its edges stay as they are.
pub record StartsLine (narrow : Bounds) (spread late later : ℕ) (places : List ℕ) (follower : Follower) : Type 0 where
  pub at : IsAt follower spread late later places 0
  pub wide : IsWider follower.bounds narrow
  pub borne : IsBorne follower.bounds spread late later

abbrev pub IsStarted : Bounds → ℕ → ℕ → ℕ → List ℕ → Option Follower → Type 0
IsStarted narrow spread late later places None = ⊥
IsStarted narrow spread late later places (Some follower) = StartsLine narrow spread late later places follower

-- a period that was measured from so many cells, by edges within such a spread
pub record IsPeriodOf (narrow : Bounds) (spread cells period : ℕ) : Type 0 where
  pub most : cells * period ≤ cells * narrow.high + spread
  pub least : cells * narrow.low < cells * period + cells + spread

-- So it follows the line, and its cells may be a 1024th longer or shorter than a period: where none was asked for, that is measured
-- from 253 cells of the line.
pub record FollowsLine (known : Option ℕ) (narrow : Bounds) (spread late later : ℕ) (places : List ℕ) (follower : Follower)
    : Type 0 where
  pub starts : StartsLine narrow spread late later places follower
  pub period : ℕ
  pub about : IsAbout follower.bounds period 1024
  pub measured : known ≡ None → IsPeriodOf narrow spread 253 period

abbrev pub IsFound : Option ℕ → Bounds → ℕ → ℕ → ℕ → List ℕ → Option Follower → Type 0
IsFound known narrow spread late later places None = ⊥
IsFound known narrow spread late later places (Some follower) = FollowsLine known narrow spread late later places follower

-- the sum of `k` sums: of the first `i` of these, of the first `i + 1`, and so on
unfoldable pub sums_to : List ℕ → ℕ → ℕ → ℕ
sums_to xs i zero = 0
sums_to xs i (suc k) = sums_to xs i k + sum_to xs (i + k)

-- A preamble begins with one of the 64 runs from `from` on.
pub record HasFirst (place : ℕ) (line : List ℕ) (from : ℕ) : Type 0 where
  pub run : ℕ
  pub least : from ≤ run
  pub most : run < from + 64
  pub begins : place_at place line run ≡ 0

-- the first run of a pair of six cells
pub record HasLongest (line : List ℕ) : Type 0 where
  pub run : ℕ
  pub within : run + 1 < length line
  pub cells : get_or line run 0 + get_or line (run + 1) 0 ≡ 6

-- how many of the first `i` pairs of neighbours have five cells or more
unfoldable pub long_pairs : List ℕ → ℕ → ℕ
long_pairs line zero = 0
long_pairs line (suc i) = long_pairs line i + (if nat_le 5 (get_or line i 0 + get_or line (i + 1) 0) then 1 else 0)

-- These 256 runs of cells are those of subframes, where the first begins so many cells behind the beginning of one. The first runs of
-- preambles have numbers of one side, even or odd: they are those of three cells there.
pub record AreOfManySubframes (place side : ℕ) (line : List ℕ) : Type 0 where
  pub subframes : AreOfSubframes place line
  pub count : length line ≡ 256
  pub some_cells : (i : ℕ) → i < length line → 1 ≤ get_or line i 0
  pub few_cells : (i : ℕ) → i < length line → get_or line i 0 ≤ 3
  -- a preamble's first run has three cells, its third has one, and the second and fourth have four
  pub side_is : (i : ℕ) → i < length line → place_at place line i ≡ 0 → i % 2 ≡ side
  pub first : (i : ℕ) → i < length line → place_at place line i ≡ 0 → get_or line i 0 ≡ 3
  pub third : (i : ℕ) → i + 3 < length line → place_at place line i ≡ 0 → get_or line (i + 2) 0 ≡ 1
  pub fourth : (i : ℕ) → i + 3 < length line → place_at place line i ≡ 0 → get_or line (i + 1) 0 + get_or line (i + 3) 0 ≡ 4
  -- runs of three cells of that side, and pairs of six cells, are such
  pub threes : (i : ℕ) → i < length line → i % 2 ≡ side → get_or line i 0 ≡ 3 → place_at place line i ≡ 0
  pub sixes : (i : ℕ) → i + 1 < length line → get_or line i 0 + get_or line (i + 1) 0 ≡ 6 → place_at place line i ≡ 0
  pub longest : HasLongest line
  pub few_long : long_pairs line 255 ≤ 32
  -- of 64 runs in a row one is such; a subframe has 32 to 60 runs
  pub firsts : (from : ℕ) → from + 64 ≤ length line → HasFirst place line from
  pub few : (i j : ℕ) → i ≤ j → j ≤ i + 127 → j < length line → place_at place line i ≡ 0 → place_at place line j ≡ 0
      → sum_to line j ≤ sum_to line i + 192
  pub many : (i j : ℕ) → i + 129 ≤ j → j < length line → place_at place line i ≡ 0 → place_at place line j ≡ 0
      → sum_to line i + 192 ≤ sum_to line j
  -- from the first 16 edges to the last 16 there are 253 cells in the mean at least
  pub cells : sums_to line 0 16 + 4048 ≤ sums_to line 241 16

-- A line can be found in 256 runs, by how long its cells are and how far its edges lie from their places: at most 0.246 of a cell within
-- one direction, less where cells change, and half a cell between the directions.
pub record IsFindable (narrow : Bounds) (spread late later : ℕ) : Type 0 where
  pub ordered : narrow.low ≤ narrow.high
  pub alike : 2048 * (narrow.high + 1) ≤ 2049 * narrow.low
  pub near : 1025 * spread + 259072 * narrow.high + 259325 ≤ 259325 * narrow.low
  pub shortest : 25362624 + spread ≤ 192 * narrow.low
  pub longest : 192 * narrow.high + spread ≤ 100663296000
  pub late_half : 2 * late ≤ 2 * later + narrow.low
  pub later_half : 2 * later ≤ 2 * late + narrow.low

-- So it is where edges of one direction lie within 15 64ths of a cell of each other, the sample that they fall into included, and those of
-- the two directions within a third of a cell more, if cells differ by one part in 32,768 at most. A sample is so much from 4.3 samples
-- a cell on.
pub record IsTolerable (cell spread late later : ℕ) : Type 0 where
  pub least : 132800 ≤ cell
  pub most : cell ≤ 523000000
  pub near : 64 * spread ≤ 15 * cell
  pub late_third : 3 * late ≤ 3 * later + cell
  pub later_third : 3 * later ≤ 3 * late + cell

-- A line that was found lasts: it is never taken for lost, by how long its cells are and how far its edges lie from their places. That
-- is at most 0.0969 of a cell within one direction, less where cells change, and about a seventh between the directions.
pub record IsLasting (narrow : Bounds) (spread late later : ℕ) : Type 0 where
  pub near : 547 * spread + 49201 * narrow.high + 211000 ≤ 49254 * narrow.low
  pub above : 64 * late + 111 * spread + 11724 * narrow.high + 19000 ≤ 64 * later + 11743 * narrow.low
  pub below : 64 * later + 111 * spread + 11724 * narrow.high + 19000 ≤ 64 * late + 11743 * narrow.low

-- These 256 runs of samples are a capture of subframes with these runs of cells, in which a line can be found.
pub record AreCapturedRuns (narrow : Bounds) (spread late later place side : ℕ) (places line runs : List ℕ) : Type 0 where
  pub displaced : AreDisplaced narrow spread late later places line runs
  pub many : AreOfManySubframes place side line
  pub findable : IsFindable narrow spread late later

-- A line of this period has such cells, where it may change by a 1024th.
pub record HasCells (period : ℕ) (narrow : Bounds) : Type 0 where
  pub least : 132096 ≤ period
  pub most : period ≤ 524288000
  pub low : period - period / 1024 ≤ narrow.low
  pub high : narrow.high ≤ period + period / 1024

-- the period that was asked for, where one was, allows such cells
abbrev pub AllowsCells : Option ℕ → Bounds → Type 0
AllowsCells None narrow = Unit {0}
AllowsCells (Some period) narrow = HasCells period narrow

-- so many samples are six cells
pub record IsSix (narrow : Bounds) (spread samples : ℕ) : Type 0 where
  pub least : 6 * narrow.low ≤ 65536 * samples + spread
  pub most : 65536 * samples ≤ 6 * narrow.high + spread

-- how many samples a run and the next have, where 2^32 - 1 are no longer counted
abbrev pub pair_at : List ℕ → ℕ → ℕ
pair_at runs i = min (get_or runs i 0 + get_or runs (i + 1) 0) (2 ^ 32 - 1)

-- The first run of a preamble is this, one of the 64 from `from` on, with so many samples before it.
pub record IsFirst (place : ℕ) (line runs : List ℕ) (from run samples : ℕ) : Type 0 where
  pub least : from ≤ run
  pub most : run < from + 64
  pub three : get_or line run 0 ≡ 3
  pub begins : place_at place line run ≡ 0
  pub samples_is : samples ≡ sum_to runs run

-- The first runs of two preambles, and how many subframes lie between them: the first is one of the first 64, the last of the last.
pub record AreEnds (place : ℕ) (line runs : List ℕ) (first last : Anchor) : Type 0 where
  pub first_is : IsFirst place line runs 0 first.run first.samples
  pub last_is : IsFirst place line runs 192 last.run last.samples
  pub cells : 64 * last.subframes + sum_to line first.run ≡ sum_to line last.run
  pub none : first.subframes ≡ 0
  pub few : last.subframes ≤ 9

-- Four runs have eight cells of this period within one, and the first is longer than the third by more than one.
pub record IsLikeAPreamble (runs : List ℕ) (run period : ℕ) : Type 0 where
  pub few : 65536 * (get_or runs run 0 + get_or runs (run + 1) 0 + get_or runs (run + 2) 0 + get_or runs (run + 3) 0) ≤ 9 * period
  pub many : 7 * period ≤ 65536 * (get_or runs run 0 + get_or runs (run + 1) 0 + get_or runs (run + 2) 0 + get_or runs (run + 3) 0)
  pub longer : 65536 * get_or runs (run + 2) 0 + period < 65536 * get_or runs run 0

-- These runs of samples are a capture of a line with these runs of cells, from an edge displaced by so much on, in which the line can be
-- found. The first 256 of them are those of subframes.
pub record IsACapture (narrow : Bounds) (spread late later place side displaced : ℕ) (line runs : List ℕ) : Type 0 where
  pub spreads : SpreadsLate narrow spread late later displaced line runs
  pub first : IsBetween late displaced spread
  pub many : AreOfManySubframes place side (take 256 line)
  pub findable : IsFindable narrow spread late later

-- the cells that a follower counts of these runs of samples are the line's
abbrev pub CountsLine : List ℕ → List ℕ → Follower → Type 0
CountsLine line runs follower = (cells : List ℕ) (behind : Follower) → CountedAll follower runs cells behind → cells ≡ line
