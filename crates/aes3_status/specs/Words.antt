-- What the codes of a status field are printed as.
use Rattle.std.specs.Prelude.{ℕ, List, [], ◌∷◌, ◌++◌, Bool, nat_le, length, ◌==◌, if◌then◌else◌, map, codes, decimal}
use Rattle.std.specs.Prelude.{Option, Some, None, unwrap_or}
use Rattle.std.specs.Borrow.{Bor}
use Rattle.std.specs.List.{list_all}

-- the words of a field: each row is a code and its word
abbrev pub Words : Type 0
Words = List (ℕ × List ℕ)

-- the word of the first row with this code
abbrev pub word_of : Words → ℕ → Option (List ℕ)
word_of [] code = None
word_of (row ∷ rows) code = if row.0 == code then Some row.1 else word_of rows code

-- the table's word for a code, else `code` and the number
unfoldable pub word_for : Words → ℕ → List ℕ
word_for words code = unwrap_or (word_of words code) (codes "code" ++ decimal code)

-- the rows of a table in the program
abbrev pub rows_of : List (ℕ × Bor (List ℕ)) → Words
rows_of table = map (λ row. (row.0, row.1.now)) table

-- whether each word has at most `most` bytes
abbrev pub are_within : ℕ → List (ℕ × Bor (List ℕ)) → Bool
are_within most table = list_all (λ row. nat_le (length row.1.now) most) table

-- byte 0 bit 0: the use
abbrev pub use_words : Words
use_words = (0, codes "consumer") ∷ (1, codes "professional") ∷ []

-- byte 0 bit 1: what the sample words carry
abbrev pub payload_words : Words
payload_words = (0, codes "pcm") ∷ (1, codes "other") ∷ []

-- sample word lengths where the greatest is 24 bits
abbrev pub words_up_to_24 : Words
words_up_to_24 =
    (0, codes "not-indicated") ∷ (4, codes "23") ∷ (2, codes "22") ∷ (6, codes "21") ∷ (1, codes "20") ∷
    (5, codes "24") ∷ []

-- sample word lengths where the greatest is 20 bits
abbrev pub words_up_to_20 : Words
words_up_to_20 =
    (0, codes "not-indicated") ∷ (4, codes "19") ∷ (2, codes "18") ∷ (6, codes "17") ∷ (1, codes "16") ∷
    (5, codes "20") ∷ []

-- sample word lengths where the greatest isn't told
abbrev pub words_up_to_any : Words
words_up_to_any = (0, codes "not-indicated") ∷ []
