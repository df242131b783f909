-- The line of a refusal, and what is said of words that can't be read.
use Rattle.std.specs.Prelude.{ℕ, List, [], ◌∷◌, ◌++◌, codes}
use Rattle.aes3_refusals.specs.declared.run_error.RunError.{RunError}
use Rattle.aes3_refusals.specs.Refusals.{number_of, place_of}
use Rattle.aes3_status.specs.Refusals.{refusal_text}

-- `aes3-spoil: refused <number>`, the place and a line feed
abbrev pub refusal_line : RunError → List ℕ
refusal_line error = refusal_text (codes "aes3-spoil") (number_of error) (place_of error)

-- what is said of words that are not UTF-8
abbrev pub not_utf8_text : List ℕ
not_utf8_text = codes "error: the words are not UTF-8"
    ++ (10 ∷ 10 ∷ codes "Usage: aes3-spoil [OPTIONS] [FILE] > CELLS")
    ++ (10 ∷ 10 ∷ codes "For more information, try '--help'.") ++ 10 ∷ []
