-- What is read of words as they come.
use Rattle.std.specs.Prelude.{ℕ, List, [], Bool, true, false, not, ◌&&◌, ◌≡◌, ◌++◌, ◌*◌, ◌/◌, nat_lt, take, drop}
use Rattle.std.specs.Prelude.{length}
use Rattle.aes3_forms_words.specs.declared.alsa_am824.Words.{Words}
use Rattle.aes3_forms_words.specs.Forms.{is_within}
use Rattle.aes3_forms_words.specs.Lists.{from_block, most_left_out, own_of}

-- the octets of the words that are whole, and the block file that they are read as
abbrev pub whole_of : List ℕ → List ℕ
whole_of octets = take (4 * (length octets / 4)) octets

abbrev pub read_whole : Words → List ℕ → List ℕ
read_whole form octets = own_of form (whole_of octets)

-- what more is read with octets behind others
abbrev pub read_more : Words → List ℕ → List ℕ → List ℕ
read_more form octets more = drop (length (read_whole form octets)) (read_whole form (octets ++ more))

-- words that are all left out, of n that may be; so many may be then
pub record AllLeft (form : Words) (n left : ℕ) (words : List ℕ) : Type 0 where
  pub none : from_block form n words ≡ []
  pub on : (more : List ℕ) → from_block form n (words ++ more) ≡ from_block form left more

-- words of which one begins a block: nothing behind them is left out
pub record Begun (form : Words) (n : ℕ) (words : List ℕ) : Type 0 where
  pub on : (more : List ℕ) → from_block form n (words ++ more) ≡ from_block form n words ++ more

-- whether a block has begun among these words; if not, so many more may be left out
abbrev pub AreAhead : Bool → Words → ℕ → List ℕ → Type 0
AreAhead true form left words = Begun form most_left_out words
AreAhead false form left words = AllLeft form most_left_out left words

-- whether the next word is left out, which begins with this octet
abbrev pub is_left_out : Bool → Words → ℕ → ℕ → Bool
is_left_out has_begun form left octet = not has_begun && nat_lt 0 left && is_within form octet
