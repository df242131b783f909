-- The samples of a file: which of its octets they are, and two of each frame as samples of 32 bits, the lowest octet first.
use Rattle.std.specs.Prelude.{ℕ, List, [], ◌∷◌, ◌++◌, ◌+◌, ◌-◌, ◌*◌, ◌/◌, if◌then◌else◌, drop, get_or, nat_lt, take}
use Rattle.std.specs.Prelude.{Option, Some, None}
use Rattle.aes3_wave.specs.declared.chunk.WaveHeader.{WaveHeader}
use Rattle.aes3_wave.specs.declared.wave_format.Container.{Container}
use Rattle.aes3_wave.specs.declared.wave_format.Container.TheVariants.{Octets1, Octets2, Octets3, Octets4}
use Rattle.aes3_wave.specs.declared.wave_format.Width.{Width}
use Rattle.aes3_wave.specs.declared.wave_format.Width.TheVariants.{Bits8, Bits16, Bits20, Bits24, Bits32}
use Rattle.aes3_wave.specs.declared.wave_format.WaveFormat.{WaveFormat}
use Rattle.aes3_wave.specs.declared.channels.Channels.{Channels}
use Rattle.aes3_wave.specs.declared.channels.Mono.{Mono}
use Rattle.aes3_wave.specs.declared.channels.Mono.TheVariants.{Both, First}
use Rattle.aes3_wave.specs.Formats.{container_len}

-- octets up to so many, or all
abbrev pub up_to : Option ℕ → List ℕ → List ℕ
up_to None b = b
up_to (Some n) b = take n b

-- the octets of a file with this header that are its samples
abbrev pub samples_of : WaveHeader → List ℕ → List ℕ
samples_of header b = up_to header.len (drop header.start b)

-- the highest octet of a number with a sign, of one that has 128 for its zero
abbrev pub signed : ℕ → ℕ
signed a = if nat_lt a 128 then a + 128 else a - 128

-- a sample whose octets are the first of a, b, c and d, as one of 32 bits
abbrev pub wide : Container → ℕ → ℕ → ℕ → ℕ → List ℕ
wide Octets1 a b c d = 0 ∷ 0 ∷ 0 ∷ signed a ∷ []
wide Octets2 a b c d = 0 ∷ 0 ∷ a ∷ b ∷ []
wide Octets3 a b c d = 0 ∷ a ∷ b ∷ c ∷ []
wide Octets4 a b c d = a ∷ b ∷ c ∷ d ∷ []

-- a sample of 32 bits with those bits 0 that don't count
abbrev pub counted : Width → List ℕ → List ℕ
counted Bits8 b = 0 ∷ 0 ∷ 0 ∷ get_or b 3 0 ∷ []
counted Bits16 b = 0 ∷ 0 ∷ get_or b 2 0 ∷ get_or b 3 0 ∷ []
counted Bits20 b = 0 ∷ (get_or b 1 0 / 16 * 16) ∷ get_or b 2 0 ∷ get_or b 3 0 ∷ []
counted Bits24 b = 0 ∷ get_or b 1 0 ∷ get_or b 2 0 ∷ get_or b 3 0 ∷ []
counted Bits32 b = get_or b 0 0 ∷ get_or b 1 0 ∷ get_or b 2 0 ∷ get_or b 3 0 ∷ []

-- the sample whose octets begin at place `at`
abbrev pub sample_at : WaveFormat → ℕ → List ℕ → List ℕ
sample_at f at b =
    counted f.width (wide f.container (get_or b at 0) (get_or b (at + 1) 0) (get_or b (at + 2) 0) (get_or b (at + 3) 0))

-- that of a channel of a frame, of which the first is 0; zero in place of none; and those of two channels
abbrev pub sample_of : WaveFormat → ℕ → List ℕ → List ℕ
sample_of f channel b = sample_at f (channel * container_len f.container) b

abbrev pub sample_or_zero : WaveFormat → Option ℕ → List ℕ → List ℕ
sample_or_zero f (Some channel) b = sample_of f channel b
sample_or_zero f None b = 0 ∷ 0 ∷ 0 ∷ 0 ∷ []

abbrev pub two_samples : WaveFormat → Channels → List ℕ → List ℕ
two_samples f channels b = sample_of f channels.first b ++ sample_or_zero f channels.second b

-- the channels that are taken where none are chosen: the first two; or the only one, twice or as the first alone
abbrev pub usual_second : Mono → Option ℕ
usual_second Both = Some 0
usual_second First = None

abbrev pub usual_channels : WaveFormat → Mono → Channels
usual_channels f mono = record { first = 0; second = if nat_lt f.channels 2 then usual_second mono else Some 1 }
