-- What a subframe carries besides its preamble and parity.
use Rattle.std.specs.Prelude.{ℕ, ℤ, pos, ◌-ℤ◌, List, [], ◌∷◌, ◌++◌, Bool, ◌^◌, ◌-◌, nat_lt, if◌then◌else◌}
use Rattle.aes3_bits.specs.Bits.{low_bits}
use Rattle.aes3_frame.specs.declared.subframe.Subframe.{Subframe}

-- how many bits an audio sample word has
unfoldable pub audio_len : ℕ
audio_len = 24

-- its 27 bits: audio, lowest first, then validity, user and channel status
abbrev pub bits_of : Subframe → List Bool
bits_of s = low_bits audio_len s.audio ++ s.v ∷ s.u ∷ s.c ∷ []

-- the number that k bits of two's complement stand for, from the number of the bits
abbrev pub signed_of : ℕ → ℕ → ℤ
signed_of k n = if nat_lt n (2 ^ (k - 1)) then pos n else pos n -ℤ pos (2 ^ k)
