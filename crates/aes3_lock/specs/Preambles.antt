-- All preambles that stand in a list of cells.
use Rattle.std.specs.Prelude.{ℕ, suc, List, [], ◌∷◌, ◌++◌, Option, Some, None, option_to_list, option_map}
use Rattle.std.specs.Prelude.{if◌then◌else◌}
use Rattle.aes3_level.specs.declared.level.Level.{Level}
use Rattle.aes3_slot.specs.declared.mark.Mark.{Mark}
use Rattle.aes3_slot.specs.declared.mark.Mark.TheVariants.{X, Y, Z}
use Rattle.aes3_slot.specs.Preambles.{entry, begins_with}

-- the preamble that stands at the start, and the level before it
unfoldable pub first_mark : List Level → Option (Mark × Level)
first_mark c =
    if begins_with X c then Some (X, entry c)
    else (if begins_with Y c then Some (Y, entry c)
    else (if begins_with Z c then Some (Z, entry c) else None))

-- a preamble with its place
abbrev pub placed : ℕ → Mark × Level → ℕ × Mark × Level
placed at m = (at, m.0, m.1)

-- the preambles of cells of which the first is at place p, in order of place
abbrev pub marks_from : ℕ → List Level → List (ℕ × Mark × Level)
marks_from p [] = []
marks_from p (x ∷ c) = option_to_list (option_map (placed p) (first_mark (x ∷ c))) ++ marks_from (suc p) c

unfoldable pub marks : List Level → List (ℕ × Mark × Level)
marks c = marks_from 0 c
