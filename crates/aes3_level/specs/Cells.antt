-- A line of cells, by the lengths of its runs of equal cells.
use Rattle.std.specs.Prelude.{ℕ, List, [], ◌∷◌, ◌++◌, replicate}
use Rattle.aes3_level.specs.declared.level.Level.{Level}
use Rattle.aes3_level.specs.declared.level.Level.TheVariants.{Low, High}

abbrev pub other : Level → Level
other Low = High
other High = Low

-- the cells of these runs, after a cell of level s
abbrev pub line : Level → List ℕ → List Level
line s [] = []
line s (n ∷ runs) = replicate n (other s) ++ line (other s) runs

-- the level of the last run, or s where there is none
abbrev pub after : Level → List ℕ → Level
after s [] = s
after s (n ∷ runs) = after (other s) runs
