-- Marks of a line, and the sample between two of them.
use Rattle.std.specs.Prelude.{ℕ, List, Option, Some, None, ◌≡◌, ◌<◌, ◌≤◌, ◌+◌, ◌-◌, ◌*◌, ◌/◌, get_or}
use Rattle.aes3_capture_places.specs.declared.marks.Mark.{Mark}

-- a mark before the first cell
abbrev pub no_mark : Mark
no_mark = record { cells = 0; samples = 0 }

-- of the first `count` marks, this is the last up to the cell
pub record IsBefore (kept : List Mark) (count cell : ℕ) (mark : Mark) : Type 0 where
  pub at : ℕ
  pub within : at < count
  pub kept_is : get_or kept at no_mark ≡ mark
  pub before : mark.cells ≤ cell
  pub last : (i : ℕ) → i < count → (get_or kept i no_mark).cells ≤ cell → (get_or kept i no_mark).cells ≤ mark.cells

-- of the first `count` marks, this is the first after the cell
pub record IsAfter (kept : List Mark) (count cell : ℕ) (mark : Mark) : Type 0 where
  pub at : ℕ
  pub within : at < count
  pub kept_is : get_or kept at no_mark ≡ mark
  pub after : cell < mark.cells
  pub first : (i : ℕ) → i < count → cell < (get_or kept i no_mark).cells → mark.cells ≤ (get_or kept i no_mark).cells

-- of the first `count` marks, the last up to the cell, where there is one
abbrev pub IsLast : List Mark → ℕ → ℕ → Option Mark → Type 0
IsLast kept count cell (Some mark) = IsBefore kept count cell mark
IsLast kept count cell None = (i : ℕ) → i < count → cell < (get_or kept i no_mark).cells

-- of the first `count` marks, the first after the cell, where there is one
abbrev pub IsFirst : List Mark → ℕ → ℕ → Option Mark → Type 0
IsFirst kept count cell (Some mark) = IsAfter kept count cell mark
IsFirst kept count cell None = (i : ℕ) → i < count → (get_or kept i no_mark).cells ≤ cell

-- the samples between two marks, shared out evenly to the cells between them
abbrev pub between : Mark → Mark → ℕ → ℕ
between before after cell =
    before.samples + (after.samples - before.samples) * (cell - before.cells) / (after.cells - before.cells)

-- the sample of a cell lies between the marks next to it
pub record IsPlaced (kept : List Mark) (cell sample : ℕ) : Type 0 where
  pub before : Mark
  pub after : Mark
  pub is_before : IsBefore kept 4096 cell before
  pub is_after : IsAfter kept 4096 cell after
  pub sample_is : sample ≡ between before after cell
