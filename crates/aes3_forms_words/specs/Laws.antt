-- The laws of words in other forms.
use Rattle.std.specs.Prelude.{ℕ, List, ◌≡◌, ◌<◌, ◌*◌, ◌%◌, ◌⊎◌, ◌↔◌, get_or}
use Rattle.aes3_forms_words.specs.declared.alsa_am824.Words.{Words}
use Rattle.aes3_forms_words.specs.declared.alsa_am824.Words.TheVariants.{Alsa}
use Rattle.aes3_forms_words.specs.Forms.{code, code_in, own_word, written_word}
use Rattle.aes3_forms_words.specs.Lists.{own_of, written_of}

-- numbers that are octets
pub record AreOctets (octets : List ℕ) : Type 0 where
  pub each : (i : ℕ) → get_or octets i 0 < 256

-- words of a block file, of which none has anything in bits 0 to 3
pub record HaveNoCodes (octets : List ℕ) : Type 0 where
  pub each : (i : ℕ) → get_or octets (4 * i) 0 % 16 ≡ 0

-- what is written in a form is read back from it
abbrev pub WrittenAreRead : Type 0
WrittenAreRead = (form : Words) (octets : List ℕ) → AreOctets octets → HaveNoCodes octets
    → own_of form (written_of form octets) ≡ octets

-- a word is written with the code of its place
abbrev pub WrittenHaveCodes : Type 0
WrittenHaveCodes = (form : Words) (place a b c d : ℕ) → d < 256 → a % 16 ≡ 0
    → code_in form (get_or (written_word form place a b c d) 0 0) ≡ code form place

-- a word that begins so has the code of its place; of ALSA it may have none
abbrev pub IsRight : Words → ℕ → ℕ → Type 0
IsRight form place octet = (code_in form octet ≡ code form place) ⊎ ((form ≡ Alsa) × (code_in form octet ≡ 0))

-- a word is read as one that has 0 in bits 0 to 3, as words of a block file have, exactly where its code is right
abbrev pub OnlyRightAreLawful : Type 0
OnlyRightAreLawful = (form : Words) (place a b c d : ℕ) → a < 256
    → (get_or (own_word form place a b c d) 0 0 % 16 ≡ 0 ↔ IsRight form place a)
