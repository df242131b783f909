-- Errors at cells.
use Rattle.std.specs.Prelude.{ℕ, zero, suc, List, [], ◌∷◌, Option, Some, None, Bool, true, false, ◌≡◌, ◌+◌, ◌%◌, ◌<◌}
use Rattle.std.specs.Prelude.{◌≤◌, ◌==◌, ◌&&◌, nat_lt, if◌then◌else◌, take}
use Rattle.aes3_spoil.specs.declared.kinds.CellError.{CellError}
use Rattle.aes3_spoil.specs.declared.kinds.Every.{Every}
use Rattle.aes3_spoil.specs.declared.errors.Errors.{Errors}
use Rattle.aes3_spoil.specs.declared.kinds.ErrorKind.{ErrorKind}
use Rattle.aes3_spoil.specs.declared.kinds.ErrorKind.TheVariants.{Changed, Inverted, Lost, Doubled}

abbrev pub same_kind : ErrorKind → ErrorKind → Bool
same_kind Changed Changed = true
same_kind Inverted Inverted = true
same_kind Lost Lost = true
same_kind Doubled Doubled = true
same_kind a b = false

-- the errors that each stand at one cell, in the order in which they were added
unfoldable pub errors_of : Errors → List CellError
errors_of errors = take errors.len errors.list

-- how many of them are of this kind and at cell i
abbrev pub entry_at : ErrorKind → ℕ → CellError → ℕ
entry_at kind i error = if (error.place == i) && same_kind error.kind kind then 1 else 0

abbrev pub listed : ErrorKind → ℕ → List CellError → ℕ
listed kind i [] = 0
listed kind i (error ∷ more) = entry_at kind i error + listed kind i more

-- those that come again and again: one at each positive multiple of a number
abbrev pub repeated : ErrorKind → ℕ → Option Every → ℕ
repeated kind i None = 0
repeated kind i (Some every) =
    if same_kind every.kind kind && (nat_lt 0 i && (nat_lt 0 every.cells && ((i % every.cells) == 0))) then 1 else 0

-- how many errors of this kind stand at cell i, and at the cells before it
unfoldable pub errors_at : Errors → ErrorKind → ℕ → ℕ
errors_at errors kind i = listed kind i (errors_of errors) + repeated kind i errors.every

abbrev pub errors_before : Errors → ErrorKind → ℕ → ℕ
errors_before errors kind zero = 0
errors_before errors kind (suc i) = errors_before errors kind i + errors_at errors kind i

-- these errors are at no cell from one to before another, and no errors at all
pub record ClearOf (at : ErrorKind → ℕ → ℕ) (from to : ℕ) : Type 0 where
  pub none : (kind : ErrorKind) (i : ℕ) → from ≤ i → i < to → at kind i ≡ 0

abbrev pub Clear : Errors → ℕ → ℕ → Type 0
Clear errors from to = ClearOf (errors_at errors) from to
