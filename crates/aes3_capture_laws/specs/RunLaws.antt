-- Laws of the runs of cells of a line.
use Rattle.std.specs.Prelude.{ℕ, List, Bool, ◌≡◌, ◌≤◌, ◌++◌, length, take, drop}
use Rattle.std.specs.List.{flat_map, All}
use Rattle.aes3_frame.specs.Blocks.{block_runs, IsBlock}
use Rattle.aes3_capture.specs.declared.follower.Bounds.{Bounds}
use Rattle.aes3_capture.specs.Captures.{IsBetween, SpreadsLate}
use Rattle.aes3_capture_recovery.specs.Finding.{AreOfManySubframes, IsFindable}

-- Any 256 runs in a row of a line of whole blocks are those of subframes.
abbrev pub RunsAreOfSubframes : Type 0
RunsAreOfSubframes = (bs : List (List (List Bool))) (k : ℕ) (line : List ℕ) → All IsBlock bs
    → line ≡ take 256 (drop k (flat_map block_runs bs)) → length line ≡ 256
    → (place side : ℕ) × AreOfManySubframes place side line

-- These runs of samples are a capture of a line of whole blocks from one of its edges on, in which the line can be found. Its runs of
-- cells from that edge to the end of the capture are `line`, 256 at least.
pub record AreOfBlocks (narrow : Bounds) (spread late later displaced : ℕ) (bs : List (List (List Bool))) (line runs : List ℕ) : Type 0 where
  pub blocks : All IsBlock bs
  pub from : ℕ
  pub rest : List ℕ
  pub line_is : line ++ rest ≡ drop from (flat_map block_runs bs)
  pub many : 256 ≤ length line
  pub spreads : SpreadsLate narrow spread late later displaced line runs
  pub first : IsBetween late displaced spread
  pub findable : IsFindable narrow spread late later
