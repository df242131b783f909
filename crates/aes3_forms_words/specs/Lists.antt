-- Octets of many words in a form.
use Rattle.std.specs.Prelude.{ℕ, List, [], ◌∷◌, ◌++◌, ◌+◌, ◌%◌, suc, zero, if◌then◌else◌}
use Rattle.aes3_forms_words.specs.declared.alsa_am824.Words.{Words}
use Rattle.aes3_forms_words.specs.Forms.{is_within, own_word, written_word}

-- the place behind a place: a block has 384 subframes
abbrev pub next : ℕ → ℕ
next place = (place + 1) % 384

-- each word of these octets as `f` makes it at its place, the first at this place; octets that fill no word stay
abbrev pub each_word : (ℕ → ℕ → ℕ → ℕ → ℕ → List ℕ) → ℕ → List ℕ → List ℕ
each_word f place (a ∷ b ∷ c ∷ d ∷ more) = f place a b c d ++ each_word f (next place) more
each_word f place (a ∷ b ∷ c ∷ []) = a ∷ b ∷ c ∷ []
each_word f place (a ∷ b ∷ []) = a ∷ b ∷ []
each_word f place (a ∷ []) = a ∷ []
each_word f place [] = []

-- octets from the first word on with which a block may begin, but no more than so many words are left out
abbrev pub from_block : Words → ℕ → List ℕ → List ℕ
from_block form (suc n) (a ∷ b ∷ c ∷ d ∷ more) =
    if is_within form a then from_block form n more else a ∷ b ∷ c ∷ d ∷ more
from_block form (suc n) (a ∷ b ∷ c ∷ []) = a ∷ b ∷ c ∷ []
from_block form (suc n) (a ∷ b ∷ []) = a ∷ b ∷ []
from_block form (suc n) (a ∷ []) = a ∷ []
from_block form (suc n) [] = []
from_block form zero octets = octets

-- how many words of a block stand before the next one at most
abbrev pub most_left_out : ℕ
most_left_out = 383

-- the block file that octets in a form are read as, and a block file's octets in a form
abbrev pub own_of : Words → List ℕ → List ℕ
own_of form octets = each_word (own_word form) 0 (from_block form most_left_out octets)

abbrev pub written_of : Words → List ℕ → List ℕ
written_of form octets = each_word (written_word form) 0 octets
