-- The words of subframes in the forms of other programs: four octets each, with a code of the preamble.
use Rattle.std.specs.Prelude.{ℕ, List, [], ◌∷◌, Bool, false, ◌+◌, ◌-◌, ◌*◌, ◌/◌, ◌%◌, ◌==◌, ◌||◌, if◌then◌else◌}
use Rattle.aes3_forms_words.specs.declared.alsa_am824.Words.{Words}
use Rattle.aes3_forms_words.specs.declared.alsa_am824.Words.TheVariants.{Own, Alsa, Am824}

-- one of three codes, by the place of a subframe in its block: of Z, of X in the first subframe of a frame, else of Y
abbrev pub by_place : ℕ → ℕ → ℕ → ℕ → ℕ
by_place z x y place = if place == 0 then z else if place % 2 == 0 then x else y

-- the code of the preamble at a place
abbrev pub code : Words → ℕ → ℕ
code Own place = 0
code Alsa place = by_place 8 2 4 place
code Am824 place = by_place 3 1 0 place

-- the code in the first octet of a word
abbrev pub code_in : Words → ℕ → ℕ
code_in Own octet = octet % 16
code_in Alsa octet = octet % 16
code_in Am824 octet = octet / 16

-- a word begins so whose code says that no block begins: it is that of X or of Y
abbrev pub is_within : Words → ℕ → Bool
is_within Own octet = false
is_within Alsa octet = (octet % 16 == 2) || (octet % 16 == 4)
is_within Am824 octet = (octet / 16 == 1) || (octet / 16 == 0)

-- an octet with a code added to its bits 0 to 3, which are 0 in a lawful word, and one with the code taken away: what
-- is left there is 0 where the code is the right one, and only there
abbrev pub with_code : ℕ → ℕ → ℕ
with_code code octet = octet / 16 * 16 + (octet % 16 + code) % 16

abbrev pub without_code : ℕ → ℕ → ℕ
without_code code octet = octet / 16 * 16 + (octet % 16 + (16 - code)) % 16

-- a word of a block file, its lowest octet first, in a form: of AM824 it is turned right by four bits, so that the code
-- and P, C, U and V are in the highest octet, and this stands first
abbrev pub written_word : Words → ℕ → ℕ → ℕ → ℕ → ℕ → List ℕ
written_word Own place a b c d = a ∷ b ∷ c ∷ d ∷ []
written_word Alsa place a b c d = with_code (code Alsa place) a ∷ b ∷ c ∷ d ∷ []
written_word Am824 place a b c d =
    let e = with_code (code Am824 place) a in
    (e % 16 * 16 + d / 16) ∷ (d % 16 * 16 + c / 16) ∷ (c % 16 * 16 + b / 16) ∷ (b % 16 * 16 + e / 16) ∷ []

-- and back
abbrev pub unwritten_word : Words → ℕ → ℕ → ℕ → ℕ → ℕ → List ℕ
unwritten_word Own place a b c d = a ∷ b ∷ c ∷ d ∷ []
unwritten_word Alsa place a b c d = without_code (code Alsa place) a ∷ b ∷ c ∷ d ∷ []
unwritten_word Am824 place a b c d =
    without_code (code Am824 place) (d % 16 * 16 + a / 16)
    ∷ (c % 16 * 16 + d / 16) ∷ (b % 16 * 16 + c / 16) ∷ (a % 16 * 16 + b / 16) ∷ []

-- the word of a block file that a word in a form is read as: as it was written, and of ALSA with no code too
abbrev pub own_word : Words → ℕ → ℕ → ℕ → ℕ → ℕ → List ℕ
own_word Own place a b c d = a ∷ b ∷ c ∷ d ∷ []
own_word Alsa place a b c d =
    (if a % 16 == 0 then a else without_code (code Alsa place) a) ∷ b ∷ c ∷ d ∷ []
own_word Am824 place a b c d = unwritten_word Am824 place a b c d
