-- The levels of one line among samples of many.
use Rattle.std.specs.Prelude.{ℕ, List, ◌+◌, ◌*◌, ◌/◌, ◌%◌, ◌<◌, ◌≡◌, get_or, length, map}
use Rattle.std.specs.Int.{bit_at}
use Rattle.std.specs.List.{range_with_len}
use Rattle.aes3_level.specs.declared.level.Level.{Level}
use Rattle.aes3_level.specs.Words.{level_of}
use Rattle.aes3_capture_recovery.specs.declared.edges.Unit.{Unit}
use Rattle.aes3_capture_recovery.specs.declared.edges.Unit.TheVariants.{Octets, Pairs}

-- how many samples so many octets are
abbrev pub samples_in : Unit → ℕ → ℕ
samples_in (Octets bit) n = n
samples_in (Pairs bit) n = n / 2

-- sample i: an octet, or two with the lower first
abbrev pub sample_of : Unit → List ℕ → ℕ → ℕ
sample_of (Octets bit) octets i = get_or octets i 0
sample_of (Pairs bit) octets i = get_or octets (2 * i) 0 + 256 * get_or octets (2 * i + 1) 0

-- the bit of a sample that is the line, and how many bits a sample has
abbrev pub bit_of_line : Unit → ℕ
bit_of_line (Octets bit) = bit
bit_of_line (Pairs bit) = bit

abbrev pub bits_of_sample : Unit → ℕ
bits_of_sample (Octets bit) = 8
bits_of_sample (Pairs bit) = 16

-- so many octets are whole samples
abbrev pub AreWhole : Unit → ℕ → Type 0
AreWhole unit n = 8 * n % bits_of_sample unit ≡ 0

-- the level of the line in sample i, and its levels in all whole samples, in their order: a part of a sample at the end
-- has none
abbrev pub level_in : Unit → List ℕ → ℕ → Level
level_in unit octets i = level_of (bit_at (sample_of unit octets i) (bit_of_line unit))

unfoldable pub levels_of_samples : Unit → List ℕ → List Level
levels_of_samples unit octets = map (level_in unit octets) (range_with_len 0 (samples_in unit (length octets)))

-- bit i of a word is the level of the line in sample i, and there is one for each sample
pub record AreLevels (unit : Unit) (octets : List ℕ) (word len : ℕ) : Type 0 where
  pub count : len ≡ samples_in unit (length octets)
  pub each : bit_of_line unit < bits_of_sample unit → (i : ℕ) → i < len
      → bit_at word i ≡ bit_at (sample_of unit octets i) (bit_of_line unit)

-- bit j of word i is the level of the line in sample 64 i + j
abbrev pub IsWord : Unit → List ℕ → ℕ → ℕ → Type 0
IsWord unit octets i word = bit_of_line unit < bits_of_sample unit → (j : ℕ) → j < 64
    → bit_at word j ≡ bit_at (sample_of unit octets (64 * i + j)) (bit_of_line unit)

-- so many words have the levels of the line in all samples, 64 each
pub record AreWords (unit : Unit) (octets words : List ℕ) (count : ℕ) : Type 0 where
  pub count_is : 64 * count ≡ samples_in unit (length octets)
  pub each : (i : ℕ) → i < count → IsWord unit octets i (get_or words i 0)
