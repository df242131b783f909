-- The levels of a line's samples, by its edges.
use Rattle.std.specs.Prelude.{ℕ, suc, List, [], ◌∷◌, ◌++◌, ◌≡◌, ◌+◌, ◌-◌, ◌^◌, min, replicate}
use Rattle.aes3_level.specs.declared.level.Level.{Level}
use Rattle.aes3_level.specs.declared.level.Level.TheVariants.{Low, High}
use Rattle.aes3_level.specs.Cells.{line, other}
use Rattle.aes3_level.specs.Words.{low_cells}
use Rattle.aes3_capture_recovery.specs.Endings.{level_if}
use Rattle.aes3_capture_recovery.specs.declared.edges.Edges.{Edges}
use Rattle.aes3_capture_recovery.specs.declared.edges.Piece.{Piece}

-- how many samples lie in each run of one level that an edge ends, where `run` samples of a level came before these
abbrev pub runs_behind : Level → ℕ → List Level → List ℕ
runs_behind Low run [] = []
runs_behind High run [] = []
runs_behind Low run (Low ∷ levels) = runs_behind Low (suc run) levels
runs_behind High run (High ∷ levels) = runs_behind High (suc run) levels
runs_behind Low run (High ∷ levels) = run ∷ runs_behind High 1 levels
runs_behind High run (Low ∷ levels) = run ∷ runs_behind Low 1 levels

-- The levels of samples are a capture of these cells, behind a cell of level `before`, where the runs of samples that
-- edges ended are one of the runs of the cells: `captures` says which runs of samples are one of which runs of cells.
pub record AreCaptured (captures : List ℕ → List ℕ → Type 0) (before : Level) (cells levels : List Level) : Type 0 where
  pub counts : List ℕ
  pub cells_are : cells ≡ line before counts
  pub runs_are : captures counts (runs_behind (other before) 0 levels)

-- the levels of the samples that a piece still has
abbrev pub levels_in : Piece → List Level
levels_in piece = low_cells piece.len piece.levels

-- so many samples more, where 2^32 - 1 are no longer counted
abbrev pub run_with : ℕ → ℕ → ℕ
run_with run samples = min (run + samples) (2 ^ 32 - 1)

-- An edge comes in a piece: the samples before it have the level that was, the one behind it has the other and begins
-- the next run.
pub record EdgeCame (old : Edges) (piece : Piece) (run : ℕ) (new : Edges) (left : Piece) : Type 0 where
  pub samples : ℕ
  pub run_is : run ≡ run_with old.run samples
  pub count : piece.len ≡ samples + (1 + left.len)
  pub levels : levels_in piece ≡ replicate samples (level_if old.high) ++ level_if new.high ∷ levels_in left
  pub turned : level_if new.high ≡ other (level_if old.high)
  pub next : new.run ≡ 1

-- No edge comes in a piece: all of it has the level that was.
pub record NoEdgeCame (old : Edges) (piece : Piece) (new : Edges) : Type 0 where
  pub levels : levels_in piece ≡ replicate piece.len (level_if old.high)
  pub same : new.high ≡ old.high
  pub run_is : new.run ≡ run_with old.run piece.len
