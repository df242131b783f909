-- The line of a refusal.
use Rattle.std.specs.Prelude.{ℕ, List, [], ◌∷◌, ◌++◌, Option, Some, None, codes, decimal}

-- ` at <place>`, where the refusal has a place
abbrev pub place_text : Option ℕ → List ℕ
place_text None = []
place_text (Some place) = codes " at " ++ decimal place

-- `<program>: refused <number>`, the place and a line feed
abbrev pub refusal_text : List ℕ → ℕ → Option ℕ → List ℕ
refusal_text program number place =
    program ++ codes ": refused " ++ decimal number ++ place_text place ++ 10 ∷ []
