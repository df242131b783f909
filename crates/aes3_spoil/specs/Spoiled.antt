-- Cells with errors.
use Rattle.std.specs.Prelude.{ℕ, suc, List, [], ◌∷◌, ◌++◌, Bool, ◌+◌, ◌%◌, ◌==◌, nat_lt, if◌then◌else◌, replicate}
use Rattle.aes3_level.specs.declared.level.Level.{Level}
use Rattle.aes3_level.specs.Cells.{other}
use Rattle.aes3_spoil.specs.declared.errors.Errors.{Errors}
use Rattle.aes3_spoil.specs.declared.kinds.ErrorKind.TheVariants.{Changed, Inverted, Lost, Doubled}
use Rattle.aes3_spoil.specs.Errors.{errors_at, errors_before}

abbrev pub is_odd : ℕ → Bool
is_odd n = (n % 2) == 1

-- the level, or the other one
abbrev pub level_inverted : Bool → Level → Level
level_inverted turned level = if turned then other level else level

-- cell i has the other level: the errors are odd that change it, or invert it or one before it
unfoldable pub is_inverted : Errors → ℕ → Bool
is_inverted errors i = is_odd (errors_at errors Changed i + errors_before errors Inverted (suc i))

-- how many times cell i is written: a lost one is not, a doubled one is twice
unfoldable pub times : Errors → ℕ → ℕ
times errors i =
    if nat_lt 0 (errors_at errors Lost i) then 0 else (if nat_lt 0 (errors_at errors Doubled i) then 2 else 1)

-- what errors make of cell i, of cells of which the first is cell i, and of all cells
abbrev pub spoiled_at : Errors → ℕ → Level → List Level
spoiled_at errors i level = replicate (times errors i) (level_inverted (is_inverted errors i) level)

abbrev pub spoiled_from : Errors → ℕ → List Level → List Level
spoiled_from errors i [] = []
spoiled_from errors i (level ∷ cells) = spoiled_at errors i level ++ spoiled_from errors (suc i) cells

unfoldable pub spoiled : Errors → List Level → List Level
spoiled errors cells = spoiled_from errors 0 cells
