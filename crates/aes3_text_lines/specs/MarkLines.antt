-- The lines of preambles. Numbers are decimal.
use Rattle.std.specs.Prelude.{ℕ, List, [], ◌∷◌, ◌++◌, codes, decimal}
use Rattle.std.specs.List.{flat_map}
use Rattle.aes3_level.specs.declared.level.Level.{Level}
use Rattle.aes3_level.specs.declared.level.Level.TheVariants.{Low, High}
use Rattle.aes3_slot.specs.declared.mark.Mark.{Mark}
use Rattle.aes3_slot.specs.declared.mark.Mark.TheVariants.{X, Y, Z}

abbrev pub level_digit : Level → List ℕ
level_digit Low = codes "0"
level_digit High = codes "1"

abbrev pub mark_letter : Mark → List ℕ
mark_letter X = codes "X"
mark_letter Y = codes "Y"
mark_letter Z = codes "Z"

-- the line of a preamble at cell `at` after the level `before`
abbrev pub mark_line : ℕ → Mark → Level → List ℕ
mark_line at mark before =
    codes "mark " ++ mark_letter mark ++ codes " at " ++ decimal at ++ codes " before " ++ level_digit before ++ 10 ∷ []

-- what stands in it before the number and behind it
abbrev pub mark_beginning : Mark → List ℕ
mark_beginning mark = codes "mark " ++ mark_letter mark ++ codes " at "

abbrev pub mark_ending : Level → List ℕ
mark_ending before = codes " before " ++ level_digit before ++ 10 ∷ []

-- the lines of preambles
unfoldable pub line_of : ℕ × Mark × Level → List ℕ
line_of m = mark_line m.0 m.1 m.2

abbrev pub mark_lines : List (ℕ × Mark × Level) → List ℕ
mark_lines ms = flat_map line_of ms
